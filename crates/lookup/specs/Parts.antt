-- What the parts of the code ask and promise. Nothing that a call answers is said here.
use Rattle.std.specs.Prelude.{ℕ, ◌*◌, ◌+◌, ◌<◌, ◌≤◌, ◌≡◌, List, get_or, length}
use Rattle.answers.specs.Tests.{pick}
use Rattle.lookup.specs.Paths.{longest_path, slash}
use Rattle.lookup.specs.declared.find.Found.{Found}
use Rattle.lookup.specs.declared.find.Found.TheVariants.{Directory, File}
use Rattle.volume.specs.declared.disk.Disk.{Disk}
use Rattle.volume.specs.Disks.{Sized, image_bytes, most_blocks}
use Rattle.volume.specs.Blocks.{Holds, directory}
use Rattle.volume.specs.Files.{size_of}

-- k is the position of the first '/', or the path's end
pub record FirstSlash (path : List ℕ) (k : ℕ) : Type 0 where
  pub within : k ≤ length path
  pub before : (j : ℕ) → j < k → get_or path j 0 ≡ slash → ⊥
  pub there : k < length path → get_or path k 0 ≡ slash

-- what the code of a search asks
pub record Searches (d : Disk) (s : List ℕ) (t : ℕ) (name : List ℕ) : Type 0 where
  pub sized : Sized d
  pub long : length s ≡ image_bytes d
  pub holds : Holds s t
  pub short : length name ≤ longest_path

-- what the code of a lookup asks
pub record Looks (d : Disk) (s path : List ℕ) (t i n : ℕ) : Type 0 where
  pub sized : Sized d
  pub long : length s ≡ image_bytes d
  pub holds : Holds s t
  pub short : i + length path ≤ longest_path
  pub counted : n ≤ i * most_blocks

-- what the last component's entry k is, n entries compared
abbrev pub found_at : List ℕ → ℕ → ℕ → Found
found_at s k n = pick (directory s k) (Directory k n) (File k (size_of s k) n)

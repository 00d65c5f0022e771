-- What may be known of sums before blocks are met: that all blocks which the bitmap has in use add up to 0. The law
-- does not speak of it; it saves adding up a block where the walk meets it.
use Rattle.std.specs.Prelude.{ℕ, ◌≤◌, ◌<◌, ◌≡◌, Bool, false, not, List, Option, Some, None, eqb, length}
use Rattle.answers.specs.Tests.{pick}
use Rattle.volume.specs.declared.disk.Disk.{Disk}
use Rattle.volume.specs.Disks.{Sized, first_key, image_bytes}
use Rattle.volume.specs.Blocks.{Holds, sum_of}
use Rattle.volume.specs.Bitmap.{is_free}

-- block k is in use by the bitmap block `map`, and does not add up to 0
abbrev pub breaks_sum : List ℕ → ℕ → ℕ → Bool
breaks_sum s map k = pick (is_free s map k) false (not (eqb (sum_of s k) 0))

-- all blocks that the bitmap block `map` has in use add up to 0
pub record Summed (d : Disk) (s : List ℕ) (map : ℕ) : Type 0 where
  pub inside : map < d.blocks
  pub sums : (k : ℕ) → first_key ≤ k → k < d.blocks → is_free s map k ≡ false → sum_of s k ≡ 0

-- what is known of sums by a bitmap block, if there is one by which they are known
abbrev pub SumsKnown : Disk → List ℕ → Option ℕ → Type 0
SumsKnown d s None = Unit
SumsKnown d s (Some map) = Summed d s map

-- block k of a disk's image may be tested, with what `map` says of its sum
pub record Testable (d : Disk) (s : List ℕ) (map : Option ℕ) (k : ℕ) : Type 0 where
  pub sized : Sized d
  pub image : length s ≡ image_bytes d
  pub summed : SumsKnown d s map
  pub low : first_key ≤ k
  pub high : k < d.blocks
  pub holds : Holds s k

-- What finds and reads answer on two images: alike (`SameAnswers`), or of one path alike but for how many entries were
-- compared (`LikeAnswers`). Then the path of an entry, and the paths at it or below it.
use Rattle.answers.specs.declared.Refusal.{Refusal}
use Rattle.std.specs.Prelude.{ℕ, ◌≡◌, ◌≢◌, List, ◌++◌, map, Result, Ok, Err}
use Rattle.volume.specs.declared.disk.Disk.{Disk}
use Rattle.volume.specs.Disks.{root_of}
use Rattle.volume.specs.Names.{folded}
use Rattle.lookup.specs.declared.find.Found.{Found}
use Rattle.lookup.specs.declared.find.Found.TheVariants.{Directory, File}
use Rattle.lookup.specs.Paths.{components}
use Rattle.lookup.specs.Lookup.{find_of}
use Rattle.reading.specs.Reads.{read_of, output_after}

-- t answers every find and every read as s does, and a read leaves the same output
pub record SameAnswers (d : Disk) (s t : List ℕ) : Type 0 where
  pub finds : (path : List ℕ) → find_of d t path ≡ find_of d s path
  pub reads : (path : List ℕ) (o n : ℕ) → read_of d t path o n ≡ read_of d s path o n
  pub left : (path : List ℕ) (o : ℕ) (output : List ℕ) (r : Result ℕ Refusal)
      → output_after d t path o output r ≡ output_after d s path o output r

-- ---- but for how many entries were compared

abbrev pub Like : Result Found Refusal → Result Found Refusal → Type 0
Like (Ok (Directory k n)) (Ok (Directory l m)) = k ≡ l
Like (Ok (Directory k n)) (Ok (File l z m)) = ⊥
Like (Ok (Directory k n)) (Err r) = ⊥
Like (Ok (File k y n)) (Ok (Directory l m)) = ⊥
Like (Ok (File k y n)) (Ok (File l z m)) = (k ≡ l) × (y ≡ z)
Like (Ok (File k y n)) (Err r) = ⊥
Like (Err r) (Ok (Directory l m)) = ⊥
Like (Err r) (Ok (File l z m)) = ⊥
Like (Err r) (Err q) = r ≡ q

-- t answers a find and a read of one path as s does, but for that
pub record LikeAnswers (d : Disk) (s t path : List ℕ) : Type 0 where
  pub finds : Like (find_of d s path) (find_of d t path)
  pub reads : (o n : ℕ) → read_of d t path o n ≡ read_of d s path o n
  pub left : (o : ℕ) (output : List ℕ) (r : Result ℕ Refusal)
      → output_after d t path o output r ≡ output_after d s path o output r

-- ---- paths

-- path p leads to entry k; the root is no entry
pub data LeadsTo (d : Disk) (s p : List ℕ) (k : ℕ) : Type 0 where
  to_file : (z n : ℕ) → find_of d s p ≡ Ok (File k z n) → LeadsTo d s p k
  to_directory : (n : ℕ) → find_of d s p ≡ Ok (Directory k n) → k ≢ root_of d → LeadsTo d s p k

-- path q is at path p or below it: the first components of q are those of p, folded
pub record Under (d : Disk) (p q : List ℕ) : Type 0 where
  pub front : List (List ℕ)
  pub back : List (List ℕ)
  pub parts : components q ≡ front ++ back
  pub same : map (folded d) front ≡ map (folded d) (components p)

-- A read, return by return; and that outcomes are determined. Assumes nothing.
use Rattle.std.specs.Prelude.{Result, Ok, Err}
use Prim.Native.Nat.{ℕ, ◌<◌}
use mathlib.Core.Path.{◌≡◌, refl, sym, ap, ◌∙◌}
use mathlib.Core.List.{List, [], ◌∷◌}
use native.Mathlib.Omega.{arith}
use lib.ListN.{length}
use Rattle.std.specs.List.{filter}
use Rattle.std.proofs.lemmas.List.Sums.{length-filter}
use Rattle.std.proofs.lemmas.List.Splits.{length-slice_split}
use Rattle.answers.specs.Numbers as fault
use Rattle.answers.specs.declared.Refusal.{Refusal}
use Rattle.volume.specs.declared.disk.Disk.{Disk}
use Rattle.volume.specs.Disks.{image_bytes, disk_of}
use Rattle.volume.specs.Files.{size_of}
use Rattle.lookup.specs.declared.find.Found.{Found}
use Rattle.lookup.specs.declared.find.Found.TheVariants as found
use Rattle.lookup.proofs.Splits.{is_slash, split_is}
use Rattle.lookup.specs.Lookup.{find_of}
use Rattle.lookup.specs.Verdicts.{IsFile}
use Rattle.lookup.proofs.Refusing.{file_exactly}
use Rattle.reading.specs.FileTests.{blocks_fault}
use Rattle.reading.specs.Bytes.{file_bytes}
use Rattle.reading.specs.Parts.{BlocksInside, Copied}
use Rattle.reading.specs.Reads.{numbers_of, refuse, last_component, read_of, output_after, Reads}
use Rattle.reading.proofs.Tested.{tested_whole}

-- ---- the last component

-- there is a '/' before each component but the first
pub last_is : (path : List ℕ) → length (filter is_slash path) ≡ last_component path
last_is [] = refl
last_is (b ∷ bs) =
    omega (
      arith,
      length-filter is_slash (b ∷ bs),
      length-slice_split is_slash (b ∷ bs),
      ap length (split_is (b ∷ bs)),
    )

-- ---- a read

-- the blocks of a file that passes its tests lie in the volume
pub blocks_inside : (d : Disk) (s : List ℕ) (k : ℕ) (t : Result Unit Refusal) → t ≡ blocks_fault d s k → t ≡ Ok tt
    → BlocksInside d s k
blocks_inside d s k t e q =
    let p : blocks_fault d s k ≡ Ok tt = sym e ∙ q in
    let w = tested_whole d s k p in
    record {
      size = w.file.size;
      lists = λ b a. (w.lists b a).inside.high;
      keys = λ b a. (w.keys b a).inside.high;
    }

-- what is found is a file with a key in the volume
module _ (d : Disk) (s path : List ℕ) (f : Result Found Refusal) (e : f ≡ find_of d s path) (k z c : ℕ)
    (g : f ≡ Ok (found.File k z c)) where
  abbrev is : IsFile d s path k z c
  is = (file_exactly d s path k z c).0 (sym e ∙ g)

  pub image_long : length s ≡ image_bytes d
  image_long = is.opened.long

  pub file_inside : k < d.blocks
  file_inside = rw is.key at is.found.tests.inside.high

  pub file_size : z ≡ size_of s k
  file_size = sym is.size ∙ ap (size_of s) is.key

module _ (d : Disk) (s path : List ℕ) (o : ℕ) (output : List ℕ) (f : Result Found Refusal)
    (e : f ≡ find_of d s path) where
  -- the answer's numbers are those of the answer
  promised : (r : Result ℕ Refusal) (output' : List ℕ) → r ≡ read_of d s path o (length output)
      → output' ≡ output_after d s path o output r → Reads d s path o output r output'
  promised r output' a l = record { answer = a; numbers = ap numbers_of a; left = l }

  module _ (k z c : ℕ) (g : f ≡ Ok (found.File k z c)) where
    pub read_failed : (t : Result Unit Refusal) (x : Refusal) → t ≡ blocks_fault d s k → t ≡ Err x
        → Reads d s path o output (Err x) output
    unfolding read_of
    read_failed t x h q = promised (Err x) output (rw (← e, g, ← h, q) refl) refl

    pub read_copied : (t : Result Unit Refusal) (n : ℕ) (output' : List ℕ) → t ≡ blocks_fault d s k → t ≡ Ok tt
        → Copied (file_bytes d s k) o output n output' → Reads d s path o output (Ok n) output'
    unfolding read_of
    read_copied t n output' h q w =
        promised (Ok n) output' (rw (← e, g, ← h, q, w.count) refl) (rw (← e, g) w.output)

  -- a lookup's refusal is handed on
  pub read_refused : (x : Refusal) → f ≡ Err x → Reads d s path o output (Err x) output
  unfolding read_of
  read_refused x g = promised (Err x) output (rw (← e, g) refl) refl

  -- a directory is no file
  pub read_directory : (k c n : ℕ) → f ≡ Ok (found.Directory k c) → n ≡ last_component path
      → Reads d s path o output (refuse fault.wrong_kind n) output
  unfolding read_of
  read_directory k c n g h = promised (refuse fault.wrong_kind n) output (rw (← e, g, h) refl) refl

-- on the disk that the image is taken for
pub on_disk : (b : ℕ) (d : Disk) (s path : List ℕ) (o : ℕ) (output : List ℕ) (r : Result ℕ Refusal) (a : List ℕ)
    → d ≡ disk_of b s → Reads d s path o output r a → Reads (disk_of b s) s path o output r a
on_disk b d s path o output r a e h = rw e at h

-- one input has one outcome
pub read_determined : (d : Disk) (s path : List ℕ) (o : ℕ) (output : List ℕ) (r r' : Result ℕ Refusal) (a a' : List ℕ)
    → Reads d s path o output r a → Reads d s path o output r' a' → (numbers_of r ≡ numbers_of r') × (r ≡ r') × (a ≡ a')
read_determined d s path o output r r' a a' h h' =
    let e = h.answer ∙ sym h'.answer in
    (ap numbers_of e, e, h.left ∙ ap (output_after d s path o output) e ∙ sym h'.left)

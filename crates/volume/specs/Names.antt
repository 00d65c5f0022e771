-- A name is 1 to 30 bytes without '/' and ':'; names are compared and hashed folded (docs/FORMAT.md, "Blocks of a
-- volume", Name and Hash).
use Rattle.std.specs.Prelude.{ℕ, ◌+◌, ◌-◌, ◌*◌, ◌%◌, Bool, true, false, List, [], ◌∷◌, map, leb, eqb, length, get_or}
use Rattle.std.proofs.Math.Seq.{slice}
use Rattle.volume.specs.declared.disk.Disk.{Disk}
use Rattle.volume.specs.Disks.{folds_accents}
use Rattle.volume.specs.Blocks.{block_bytes, slots}
use Rattle.answers.specs.Tests.{pick}

-- a-z become A-Z, and every other byte stays
unfoldable pub fold_plain : ℕ → ℕ
fold_plain b = pick (leb 97 b) (pick (leb b 122) (b - 32) b) b

-- E0 to FE but F7: the small letters with accents
unfoldable pub accented : ℕ → Bool
accented b = pick (leb 0xE0 b) (pick (leb b 0xFE) (pick (eqb b 0xF7) false true) false) false

-- these go down by 20 hex too
unfoldable pub fold_international : ℕ → ℕ
fold_international b = pick (accented b) (b - 0x20) (fold_plain b)

-- a byte folded as its disk folds it
unfoldable pub fold_of : Disk → ℕ → ℕ
fold_of d b = pick (folds_accents d) (fold_international b) (fold_plain b)

abbrev pub folded : Disk → List ℕ → List ℕ
folded d name = map (fold_of d) name

-- the hash goes on from h over the bytes of a name
unfoldable pub hash_from : Disk → ℕ → List ℕ → ℕ
hash_from d h [] = h
hash_from d h (b ∷ bs) = hash_from d ((13 * h + fold_of d b) % 2048) bs

-- it begins with the length
unfoldable pub slot_of : Disk → List ℕ → ℕ
slot_of d name = hash_from d (length name) name % slots

-- equal when folded
unfoldable pub same : Disk → List ℕ → List ℕ → Bool
same d [] [] = true
same d [] (y ∷ ys) = false
same d (x ∷ xs) [] = false
same d (x ∷ xs) (y ∷ ys) = pick (eqb (fold_of d x) (fold_of d y)) (same d xs ys) false

-- no '/' and no ':'
unfoldable pub allowed : List ℕ → Bool
allowed [] = true
allowed (b ∷ bs) = pick (eqb b 47) false (pick (eqb b 58) false (allowed bs))

-- a name's length stands in byte 432 of its block, and its bytes after that
abbrev pub name_byte : ℕ
name_byte = 432

abbrev pub longest : ℕ
longest = 30

abbrev pub name_length : List ℕ → ℕ → ℕ
name_length s k = get_or s (k * block_bytes + name_byte) 0

abbrev pub name_from : ℕ → ℕ
name_from k = k * block_bytes + (name_byte + 1)

abbrev pub name_of : List ℕ → ℕ → List ℕ
name_of s k = slice (name_from k) (name_from k + name_length s k) s

unfoldable pub name_good : List ℕ → ℕ → Bool
name_good s k = pick (leb 1 (name_length s k))
    (pick (leb (name_length s k) longest) (allowed (name_of s k)) false) false

-- The worked cases of docs/FORMAT.md, of names, sizes and bits, in one list.
use Rattle.std.specs.Prelude.{ℕ, ◌≡◌, List, [], ◌∷◌, map}
use Rattle.volume.specs.declared.disk.Disk.{Disk}
use Rattle.answers.specs.Tests.{pick}
use Rattle.volume.specs.Disks.{is_old}
use Rattle.volume.specs.Names.{slot_of}
use Rattle.volume.specs.Files.{data_blocks, keys_here, list_blocks, last_keys}
use Rattle.volume.specs.Bitmap.{bit_word, bit_number}

-- what is asked: the slot of a name, the bit of a block, the blocks of a size
pub data Star : Type 0 where
  slot : List ℕ → Star
  bit : ℕ → Star
  size : ℕ → Star

-- a slot; a word of the bitmap and a bit; data blocks, keys in the header, list blocks, and keys in the last block
-- that lists any
unfoldable pub answer : Disk → Star → List ℕ
answer d (slot name) = slot_of d name ∷ []
answer d (bit k) = bit_word k ∷ bit_number k ∷ []
answer d (size z) =
    data_blocks d z ∷ keys_here (data_blocks d z) ∷ list_blocks (data_blocks d z) ∷ last_keys (data_blocks d z) ∷ []

pub record Case : Type 0 where
  pub of : Star
  pub is : List ℕ

abbrev pub case : Star → List ℕ → Case
case q a = record { of = q; is = a }

-- sizes of 0, 1, 2, 72 and 73 data blocks: those of 1 and of 72 are full
abbrev pub size_cases : ℕ → ℕ → ℕ → ℕ → List Case
size_cases one two many more =
    case (size 0) (0 ∷ 0 ∷ 0 ∷ 0 ∷ [])
    ∷ case (size one) (1 ∷ 1 ∷ 0 ∷ 1 ∷ [])
    ∷ case (size two) (2 ∷ 2 ∷ 0 ∷ 2 ∷ [])
    ∷ case (size many) (72 ∷ 72 ∷ 0 ∷ 72 ∷ [])
    ∷ case (size more) (73 ∷ 72 ∷ 1 ∷ 1 ∷ [])
    ∷ []

-- "a", "A", "c", "s", "MARY"; blocks; sizes
abbrev pub stars : Disk → List Case
stars d =
    case (slot (97 ∷ [])) (6 ∷ [])
    ∷ case (slot (65 ∷ [])) (6 ∷ [])
    ∷ case (slot (99 ∷ [])) (8 ∷ [])
    ∷ case (slot (115 ∷ [])) (24 ∷ [])
    ∷ case (slot (77 ∷ 65 ∷ 82 ∷ 89 ∷ [])) (65 ∷ [])
    ∷ case (bit 2) (1 ∷ 0 ∷ [])
    ∷ case (bit 880) (28 ∷ 14 ∷ [])
    ∷ case (bit 1759) (55 ∷ 29 ∷ [])
    ∷ case (bit 3519) (110 ∷ 29 ∷ [])
    ∷ pick (is_old d) (size_cases 488 489 35136 35137) (size_cases 512 513 36864 36865)

-- every case has its answer
abbrev pub Hold : Disk → List Case → Type 0
Hold d l = map (λ c. answer d c.of) l ≡ map (λ c. c.is) l

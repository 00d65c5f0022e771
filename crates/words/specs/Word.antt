-- Every number on a disk and in a program file is a big-endian word of 32 bits: four bytes, the highest first
-- (docs/FORMAT.md, "What is built").
use Rattle.std.specs.Prelude.{ℕ, zero, suc, ◌+◌, ◌*◌, ◌/◌, ◌%◌, ◌^◌, ◌<◌, List, [], ◌∷◌, set, slice_index, slice_set}

-- each element is a byte
abbrev pub Bytes : List ℕ → Type 0
Bytes s = (k : ℕ) → slice_index s k < 256

-- the number that four bytes make, the first the highest
abbrev pub four : ℕ → ℕ → ℕ → ℕ → ℕ
four a b c d = ((a * 256 + b) * 256 + c) * 256 + d

-- the word whose first byte stands at `at`
unfoldable pub word_at : List ℕ → ℕ → ℕ
word_at s at = four (slice_index s at) (slice_index s (at + 1)) (slice_index s (at + 2)) (slice_index s (at + 3))

-- the n words from `at` on
unfoldable pub words_at : List ℕ → ℕ → ℕ → List ℕ
words_at s at zero = []
words_at s at (suc n) = word_at s at ∷ words_at s (at + 4) n

-- the bytes with w stored at `at`
unfoldable pub set_word : List ℕ → ℕ → ℕ → List ℕ
set_word s at w =
    set (slice_set (slice_set (slice_set s at (w / 16777216 % 256)) (at + 1) (w / 65536 % 256)) (at + 2)
    (w / 256 % 256)) (at + 3)
    (w % 256)

-- the bytes with d added, modulo 2^32, to the word at `at`
unfoldable pub add_at : List ℕ → ℕ → ℕ → List ℕ
add_at s at d = set_word s at ((word_at s at + d) % 2 ^ 32)

-- The bitmap block as a block of its own, a page: what it says of a block, and the page with bits changed.
use Rattle.std.specs.Prelude.{ℕ, zero, suc, ◌+◌, ◌*◌, ◌/◌, ◌%◌, ◌^◌, Bool, true, false, List, [], ◌∷◌, eqb}
use Rattle.words.specs.Word.{word_at, set_word}
use Rattle.volume.specs.Bitmap.{bit_word, bit_number}

-- the page says that block k is free
unfoldable pub free_in : List ℕ → ℕ → Bool
free_in page k = eqb (word_at page (4 * bit_word k) / 2 ^ bit_number k % 2) 1

-- a bit as a number: 1 says that a block is free
abbrev pub bit_of : Bool → ℕ
bit_of true = 1
bit_of false = 0

-- the word w with v as its bit p, counted from the lowest
unfoldable pub with_bit : ℕ → ℕ → ℕ → ℕ
with_bit w zero v = 2 * (w / 2) + v
with_bit w (suc p) v = w % 2 + 2 * with_bit (w / 2) p v

-- the page with v as the bit of block k
unfoldable pub set_bit : List ℕ → ℕ → ℕ → List ℕ
set_bit page k v = set_word page (4 * bit_word k) (with_bit (word_at page (4 * bit_word k)) (bit_number k) v)

-- and as that of each of the blocks ks
abbrev pub set_bits : List ℕ → List ℕ → ℕ → List ℕ
set_bits page [] v = page
set_bits page (k ∷ ks) v = set_bits (set_bit page k v) ks v

-- the page with f j as the bit of block j, for the n blocks from k on
abbrev pub map_bits : List ℕ → (ℕ → ℕ) → ℕ → ℕ → List ℕ
map_bits page f k zero = page
map_bits page f k (suc n) = map_bits (set_bit page k (f k)) f (suc k) n

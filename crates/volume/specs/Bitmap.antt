-- The bitmap block has a bit for each block from 2 on, 32 to a word from w1 on, the lowest first; 1 is free
-- (docs/FORMAT.md, "Blocks of a volume", Bitmap block).
use Rattle.std.specs.Prelude.{ℕ, ◌+◌, ◌-◌, ◌/◌, ◌%◌, ◌^◌, Bool, List, eqb}
use Rattle.volume.specs.Blocks.{word_of}
use Rattle.volume.specs.Disks.{first_key}

-- the word that has block k's bit, and the bit's number in it, from the lowest
abbrev pub bit_word : ℕ → ℕ
bit_word k = 1 + (k - first_key) / 32

abbrev pub bit_number : ℕ → ℕ
bit_number k = (k - first_key) % 32

-- the bitmap block `bitmap` says that block k is free
unfoldable pub is_free : List ℕ → ℕ → ℕ → Bool
is_free s bitmap k = eqb (word_of s bitmap (bit_word k) / 2 ^ bit_number k % 2) 1

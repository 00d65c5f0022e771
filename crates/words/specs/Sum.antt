-- A block's sum: its 128 words added up, modulo 2^32 (docs/FORMAT.md, "Blocks of a volume", Sum).
use Rattle.std.specs.Prelude.{ℕ, zero, suc, ◌+◌, ◌*◌, ◌%◌, ◌^◌, List}
use Rattle.words.specs.Word.{word_at}

-- how many words a block has
abbrev pub block_words : ℕ
block_words = 128

-- the sum of the n words from `at` on, as a plain number
unfoldable pub total : List ℕ → ℕ → ℕ → ℕ
total s at zero = 0
total s at (suc n) = total s at n + word_at s (at + 4 * n)

-- the sum of the block whose first byte stands at `at`
unfoldable pub sum_at : List ℕ → ℕ → ℕ
sum_at s at = total s at block_words % 2 ^ 32

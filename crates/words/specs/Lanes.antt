-- What `block_sum` adds up in place of words: words with their first byte the lowest, and their odd bytes, those at
-- places 1 and 3 counted from 0. Lanes are the halves of a number in which two sums stand side by side. What a block's
-- sum is stands in `Sum`, and needs none of this.
use Rattle.std.specs.Prelude.{ℕ, ◌+◌, ◌*◌, ◌/◌, ◌%◌, List, slice_index}

-- the number that four bytes make, the first the lowest
abbrev pub low_four : ℕ → ℕ → ℕ → ℕ → ℕ
low_four a b c d = a + 256 * b + 65536 * c + 16777216 * d

-- the four bytes at `at` as a number, the first the lowest
unfoldable pub low_at : List ℕ → ℕ → ℕ
low_at s at = low_four (slice_index s at) (slice_index s (at + 1)) (slice_index s (at + 2)) (slice_index s (at + 3))

-- the odd bytes of such a number, in two lanes: the second, and 65536 times the fourth
unfoldable pub odd_bytes : ℕ → ℕ
odd_bytes w = w / 256 % 256 + 65536 * (w / 16777216)

-- the most that this is of a number below 2^32
abbrev pub most_odd : ℕ
most_odd = 255 + 65536 * 255

-- the odd bytes of the four at `at`, in two lanes
abbrev pub odd_at : List ℕ → ℕ → ℕ
odd_at s at = odd_bytes (low_at s at)

-- the sum of what f gives for eight places, 64 bytes apart
unfoldable pub eight : (ℕ → ℕ) → ℕ → ℕ
eight f at =
    f at + f (at + 64) + f (at + 128) + f (at + 192) + f (at + 256) + f (at + 320) + f (at + 384) + f (at + 448)

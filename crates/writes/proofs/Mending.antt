-- A block with its sum mended in a word: the sum is 0, and the other words stay. Assumes nothing.
use Prim.Native.Nat.{ℕ, ◌+◌, ◌-◌, ◌*◌, ◌%◌, ◌^◌, ◌<◌}
use mathlib.Core.Path.{◌≡◌, ◌∙◌}
use mathlib.Core.Logic.{◌≢◌, inl, inr}
use mathlib.Core.List.{List}
use native.Mathlib.Omega.{arith}
use native.Mathlib.Decide.{dec_lt}
use lib.ListN.{length, get_or}
use Rattle.words.specs.Word.{word_at, set_word, add_at}
use Rattle.words.specs.Sum.{block_words, sum_at}
use Rattle.words.proofs.Words.{Far, Off, length_add_at, add_at_apart, add_at_off}
use Rattle.words.proofs.Sums.{sum_at_lt, sum_at_set}
use Rattle.volume.specs.Blocks.{block_bytes}
use Rattle.writes.specs.Writes.{mended}

module _ (j : ℕ) (b : List ℕ) (low : j < block_words) (whole : length b ≡ block_bytes) where
  pub length_mended : length (mended j b) ≡ block_bytes
  unfolding mended
  length_mended = length_add_at b (4 * j) (2 ^ 32 - sum_at b 0) ∙ whole

  pub sum_mended : sum_at (mended j b) 0 ≡ 0
  unfolding mended add_at
  sum_mended =
      let v : ℕ = (word_at b (4 * j) + (2 ^ 32 - sum_at b 0)) % 2 ^ 32 in
      let e : (sum_at (set_word b (0 + 4 * j) v) 0 + word_at b (0 + 4 * j)) % 2 ^ 32 ≡ (sum_at b 0 + v) % 2 ^ 32
      = sum_at_set b 0 j v low (omega arith) (omega arith)
      in
      let z : 0 + 4 * j ≡ 4 * j = omega arith in
      let e' : (sum_at (set_word b (4 * j) v) 0 + word_at b (4 * j)) % 2 ^ 32 ≡ (sum_at b 0 + v) % 2 ^ 32 = rw z at e in
      omega (arith, e', sum_at_lt b 0, sum_at_lt (set_word b (4 * j) v) 0)

  pub word_mended : (i : ℕ) → i ≢ j → word_at (mended j b) (4 * i) ≡ word_at b (4 * i)
  unfolding mended
  word_mended i h = add_at_apart b (4 * j) (2 ^ 32 - sum_at b 0) (4 * i) (go (dec_lt i j))
    where
      go : Dec (i < j) → Far (4 * j) (4 * i)
      go (yes p) = inr (omega arith)
      go (no p) = let q : j < i = omega arith in inl (omega arith)

  pub byte_mended : (i : ℕ) → Off i (4 * j) → get_or (mended j b) i 0 ≡ get_or b i 0
  unfolding mended
  byte_mended i o = add_at_off b (4 * j) (2 ^ 32 - sum_at b 0) i o

-- Laws of what `block_sum` adds up: how sums of bytes make up its two sums and the sum of words, and how it gets that
-- sum from the two. Assumes nothing.
use Rattle.std.proofs.Common.{◌≡◌, ℕ, zero, suc, ◌+◌, ◌*◌, ◌/◌, ◌%◌, ◌^◌, ◌<◌, ◌≤◌, List, get_or, refl, ◌∙◌, arith}
use Rattle.words.specs.Word.{Bytes, four, word_at}
use Rattle.words.specs.Sum.{block_words, total, sum_at}
use Rattle.words.specs.Lanes.{low_four, low_at, odd_bytes, odd_at}
use Rattle.words.proofs.Turns.{block_turns, run, run_below, turns, turns_all}

-- ---- sums in two lanes

module _ (a b : ℕ) (h : a < 65536) where
  lower : (a + 65536 * b) % 65536 ≡ a
  lower = omega arith

  upper : (a + 65536 * b) / 65536 ≡ b
  upper = omega arith

  both_fit : b < 65536 → a + 65536 * b < 2 ^ 32
  both_fit p = omega arith

-- two numbers of 32 bits are equal if they are so with z added, modulo 2^32
added : (x y z : ℕ) → x < 2 ^ 32 → y < 2 ^ 32 → (x + z) % 2 ^ 32 ≡ (y + z) % 2 ^ 32 → x ≡ y
added x y z p q h = omega arith

-- the sum of words with their first byte the lowest, and that of their odd bytes, give back all four sums of bytes
four_is : (d : ℕ) {a b c low odd even : ℕ} → a < 65536 → b < 65536 → c < 65536 → low ≡ low_four a b c d
    → odd ≡ b + 65536 * d → even < 2 ^ 32 → (even + 256 * odd) % 2 ^ 32 ≡ low % 2 ^ 32
    → four (even % 65536) (odd % 65536) (even / 65536) (odd / 65536) ≡ four a b c d
four_is d {a} {b} {c} {low} {odd} {even} ha hb hc l o fits e =
    let w : low ≡ a + 65536 * c + 256 * odd = rw (l, o) (omega arith) in
    let v : even ≡ a + 65536 * c = added even (a + 65536 * c) (256 * odd) fits (both_fit a c ha hc) (rw w at e) in
    rw (v, o, lower a c ha, upper a c ha, lower b d hb, upper b d hb)

-- ---- sums of bytes

-- the odd bytes of a word are those of the list
odd_bytes_lem : (s : List ℕ) (at : ℕ) → Bytes s → odd_at s at ≡ get_or s (at + 1) 0 + 65536 * get_or s (at + 3) 0
unfolding low_at odd_bytes
odd_bytes_lem s at h = omega (arith, h at, h (at + 1), h (at + 2), h (at + 3))

module _ (s : List ℕ) (at : ℕ) where
  -- the sum of the first, second, third and fourth bytes of n words
  abbrev first : ℕ → ℕ
  first n = run (λ p. get_or s p 0) at n

  abbrev second : ℕ → ℕ
  second n = run (λ p. get_or s (p + 1) 0) at n

  abbrev third : ℕ → ℕ
  third n = run (λ p. get_or s (p + 2) 0) at n

  abbrev fourth : ℕ → ℕ
  fourth n = run (λ p. get_or s (p + 3) 0) at n

  low_is : (n : ℕ) → run (low_at s) at n ≡ low_four (first n) (second n) (third n) (fourth n)
  unfolding run low_at
  low_is zero = refl
  low_is (suc n) = omega (arith, low_is n)

  odd_is : Bytes s → (n : ℕ) → run (odd_at s) at n ≡ second n + 65536 * fourth n
  unfolding run
  odd_is h zero = refl
  odd_is h (suc n) = omega (arith, odd_is h n, odd_bytes_lem s (at + 4 * n) h)

  total_is : (n : ℕ) → total s at n ≡ four (first n) (second n) (third n) (fourth n)
  unfolding run total word_at
  total_is zero = refl
  total_is (suc n) = omega (arith, total_is n)

  -- both sums of all turns of a block
  low_block : turns (low_at s) at block_turns
      ≡ low_four (first block_words) (second block_words) (third block_words) (fourth block_words)
  low_block = rw turns_all (low_is block_words)

  odd_block : Bytes s → turns (odd_at s) at block_turns ≡ second block_words + 65536 * fourth block_words
  odd_block h = rw turns_all (odd_is h block_words)

  -- what `even_bytes` and `high_first` make of both sums of a block is its sum
  pub sum_is : {low odd even r : ℕ} → Bytes s → low ≡ turns (low_at s) at block_turns
      → odd ≡ turns (odd_at s) at block_turns → even < 2 ^ 32 → (even + 256 * odd) % 2 ^ 32 ≡ low % 2 ^ 32
      → r ≡ four (even % 65536) (odd % 65536) (even / 65536) (odd / 65536) % 2 ^ 32 → r ≡ sum_at s at
  unfolding sum_at
  sum_is h p q fits e t =
      let below : (f : ℕ → ℕ) → ((k : ℕ) → f k ≤ 255) → run f at block_words < 65536 =
      λ f b. omega (arith, run_below f b at block_words) in
      let byte : (k : ℕ) → get_or s k 0 ≤ 255 = λ k. omega (arith, h k) in
      rw (
        total_is block_words,
        t,
        four_is (fourth block_words) (below _ (λ k. byte k)) (below _ (λ k. byte (k + 1))) (below _ (λ k. byte (k + 2)))
            (p ∙ low_block) (q ∙ odd_block h) fits e,
      )

-- Laws of a block's sum: what it depends on, and what a store does to it. Assumes nothing.
use Rattle.std.proofs.Common.{◌≡◌, ℕ, zero, suc, ◌+◌, ◌*◌, ◌%◌, ◌^◌, ◌<◌, ◌≤◌, ◌⊎◌, List, length, get_or, refl, ap, ap₂}
use Rattle.std.proofs.Common.{inl, inr, ⊎_elim, arith}
use native.Mathlib.Decide.{dec_lt}
use Rattle.words.specs.Word.{word_at, set_word}
use Rattle.words.specs.Sum.{block_words, total, sum_at}
use Rattle.words.proofs.Words.{word_at_same, word_at_apart, word_at_same_bytes, set_word_above, set_word_below}

-- the sum depends on its own bytes alone
pub total_same : (s t : List ℕ) (at n : ℕ) → ((k : ℕ) → at ≤ k → k < at + 4 * n → get_or s k 0 ≡ get_or t k 0)
    → total s at n ≡ total t at n
unfolding total
total_same s t at zero h = refl
total_same s t at (suc n) h =
    ap₂ ◌+◌ (total_same s t at n (λ k p q. h k p (omega arith)))
    (word_at_same_bytes s t (at + 4 * n) (λ k p q. h k (omega arith) (omega arith)))

-- a store before or after the words leaves their sum
pub total_apart : (s : List ℕ) (at n t w : ℕ) → (t + 4 ≤ at) ⊎ (at + 4 * n ≤ t)
    → total (set_word s t w) at n ≡ total s at n
total_apart s at n t w o =
    total_same (set_word s t w) s at n
    (λ k p q. ⊎_elim (λ h. set_word_above s t w k (omega arith)) (λ h. set_word_below s t w k (omega arith)) o)

-- a store to one of the words: the new sum and the old word are the old sum and the new word
pub total_set : (s : List ℕ) (at n j w : ℕ) → j < n → at + 4 * n ≤ length s → w < 2 ^ 32
    → total (set_word s (at + 4 * j) w) at n + word_at s (at + 4 * j) ≡ total s at n + w
unfolding total
total_set s at zero j w h l v = omega arith
total_set s at (suc n) j w h l v = go (λ p. total_set s at n j w p (omega arith) v) (dec_lt j n)
  where
    go : (j < n → total (set_word s (at + 4 * j) w) at n + word_at s (at + 4 * j) ≡ total s at n + w) → Dec (j < n)
        → total (set_word s (at + 4 * j) w) at n + word_at (set_word s (at + 4 * j) w) (at + 4 * n) + word_at s
        (at + 4 * j) ≡ total s at n + word_at s (at + 4 * n) + w
    go ih (yes p) = rw (word_at_apart s (at + 4 * j) w (at + 4 * n) (inl (omega arith))) (omega (arith, ih p))
    go ih (no p) =
        let e : j ≡ n = omega arith in
        let a : total (set_word s (at + 4 * n) w) at n ≡ total s at n =
        total_apart s at n (at + 4 * n) w (inr (omega arith)) in
        rw (e, a, word_at_same s (at + 4 * n) w (omega arith) v) (omega arith)

-- ---- the sum of a block

module _ (s : List ℕ) (at : ℕ) where
  pub sum_at_lt : sum_at s at < 2 ^ 32
  unfolding sum_at
  sum_at_lt = omega arith

  pub sum_at_same : (t : List ℕ) → ((k : ℕ) → at ≤ k → k < at + 4 * block_words → get_or s k 0 ≡ get_or t k 0)
      → sum_at s at ≡ sum_at t at
  unfolding sum_at
  sum_at_same t h = ap (λ n. n % 2 ^ 32) (total_same s t at block_words h)

  pub sum_at_apart : (t w : ℕ) → (t + 4 ≤ at) ⊎ (at + 4 * block_words ≤ t) → sum_at (set_word s t w) at ≡ sum_at s at
  unfolding sum_at
  sum_at_apart t w o = ap (λ n. n % 2 ^ 32) (total_apart s at block_words t w o)

  -- a store to word j: the new sum and the old word are, modulo 2^32, the old sum and the new word
  pub sum_at_set : (j w : ℕ) → j < block_words → at + 4 * block_words ≤ length s → w < 2 ^ 32
      → (sum_at (set_word s (at + 4 * j) w) at + word_at s (at + 4 * j)) % 2 ^ 32 ≡ (sum_at s at + w) % 2 ^ 32
  unfolding sum_at
  sum_at_set j w h l v = omega (arith, total_set s at block_words j w h l v)

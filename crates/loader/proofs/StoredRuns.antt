-- The loop that stores a run of words. Assumes nothing.
use Rattle.std.proofs.Common.{◌≡◌, ℕ, suc, ◌+◌, ◌-◌, ◌*◌, ◌<◌, ◌≤◌, List, length, sym, ap, ◌∙◌, arith}
use Rattle.words.specs.Word.{word_at, words_at, set_word}
use Rattle.words.proofs.Words.{length_set_word}
use Rattle.loader.specs.Parts.{with_words}

-- ---- the loop that stores a run

-- i words are stored, and the others make the same of memory now as all made of it at first
pub record Storing (file : List ℕ) (at n : ℕ) (m₀ : List ℕ) (p : ℕ) (m : List ℕ) (i : ℕ) : Type 0 where
  pub left : with_words m₀ p (words_at file at n) ≡ with_words m (p + 4 * i) (words_at file (at + 4 * i) (n - i))
  pub long : length m ≡ length m₀

module _ (file : List ℕ) (at n : ℕ) (m₀ : List ℕ) (p : ℕ) where
  module _ (m : List ℕ) (i : ℕ) (h : Storing file at n m₀ p m i) where
    pub storing_on : (m' : List ℕ) → m' ≡ set_word m (p + 4 * i) (word_at file (at + 4 * i)) → i < n
        → Storing file at n m₀ p m' (i + 1)
    unfolding with_words words_at
    storing_on m' e k =
        let a : n - i ≡ suc (n - (i + 1)) = omega arith in
        let b : p + 4 * (i + 1) ≡ p + 4 * i + 4 = omega arith in
        let d : at + 4 * (i + 1) ≡ at + 4 * i + 4 = omega arith in
        record {
          left = h.left ∙ rw (a, e, b, d);
          long = ap length e ∙ length_set_word m (p + 4 * i) _ ∙ h.long;
        }

    pub storing_end : n ≤ i → m ≡ with_words m₀ p (words_at file at n)
    unfolding with_words words_at
    storing_end k = let a : n - i ≡ 0 = omega arith in sym (h.left ∙ rw a)

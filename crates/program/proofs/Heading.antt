-- The header's tests pass where its words are those of the page, and there alone. Assumes nothing.
use Prim.Native.Nat.{ℕ, zero, suc, ◌+◌, ◌*◌, ◌-◌, ◌<◌, ◌≤◌}
use mathlib.Core.Path.{◌≡◌, refl, sym, subst, ◌∙◌}
use mathlib.Core.Logic.{◌≢◌}
use mathlib.Core.List.{List, [], ◌∷◌, ◌++◌}
use mathlib.Core.Bool.{Bool, true, false}
use native.Mathlib.Omega.{arith}
use native.Mathlib.Decide.{dec_lt}
use lib.ListN.{length, get_or}
use lib.Dec.{ltb, leb, eqb}
use borrow.Author.Tests.{le-ltb, le-leb, eq-eqb, ne_eqb, ltb-false, leb-true, eqb-true, eqb-false}
use Rattle.answers.specs.declared.Refusal.{Refusal}
use Rattle.std.specs.Prelude.{Result, Ok}
use Rattle.answers.specs.Numbers as fault
use Rattle.program.specs.Types as type
use Rattle.words.specs.Word.{word_at, words_at}
use Rattle.answers.specs.Tests.{pick, must}
use Rattle.answers.proofs.Tests.{must_passed, pick_passed}
use Rattle.answers.proofs.Clashes.{impossible}
use Rattle.program.specs.Spaces.{space_in, SpaceFits, space_fault}
use Rattle.program.specs.Header.{total_of, head_fault, judge, heads}
use Rattle.program.specs.Verdicts.{HeadPasses}
use Rattle.program.proofs.Spaces.{fits_passes, passed_fits}

-- ---- words

-- m words, and n after them
pub words_add : (s : List ℕ) (m at n : ℕ) → words_at s at (m + n) ≡ words_at s at m ++ words_at s (at + 4 * m) n
unfolding words_at
words_add s zero at n =
    let a : 0 + n ≡ n = omega arith in
    let b : at + 4 * 0 ≡ at = omega arith in
    rw (a, b)
words_add s (suc m) at n =
    let a : suc m + n ≡ suc (m + n) = omega arith in
    let b : at + 4 * suc m ≡ at + 4 + 4 * m = omega arith in
    rw (a, b, words_add s m (at + 4) n)

-- the first words are those of l, and the others come after them
pub record Split (s l rest : List ℕ) (at n : ℕ) : Type 0 where
  pub long : length l ≤ n
  pub others : words_at s (at + 4 * length l) (n - length l) ≡ rest
  pub first : (i : ℕ) → i < length l → word_at s (at + 4 * i) ≡ get_or l i 0

pub split : (s l rest : List ℕ) (at n : ℕ) → words_at s at n ≡ l ++ rest → Split s l rest at n
unfolding words_at
split s [] rest at n e =
    let a : at + 4 * 0 ≡ at = omega arith in
    let b : n - 0 ≡ n = omega arith in
    record { long = omega arith; others = rw (a, b) e; first = λ i h. absurd (omega arith) }
split s (x ∷ l) rest at zero e = impossible cc
split s (x ∷ l) rest at (suc n) e =
    let p : word_at s at ≡ x = cc in
    let q : words_at s (at + 4) n ≡ l ++ rest = cc in
    let r = split s l rest (at + 4) n q in
    let a : at + 4 * suc (length l) ≡ at + 4 + 4 * length l = omega arith in
    let b : suc n - suc (length l) ≡ n - length l = omega arith in
    record { long = omega (arith, r.long); others = rw (a, b) r.others; first = go p r.first }
  where
    go : word_at s at ≡ x → ((i : ℕ) → i < length l → word_at s (at + 4 + 4 * i) ≡ get_or l i 0) → (i : ℕ)
        → i < suc (length l) → word_at s (at + 4 * i) ≡ get_or (x ∷ l) i 0
    go p f zero h = let a : at + 4 * 0 ≡ at = omega arith in rw a p
    go p f (suc i) h = let a : at + 4 * suc i ≡ at + 4 + 4 * i = omega arith in rw a (f i (omega arith))

-- ---- the tests pass

judged : (v at : ℕ) (r : Result Unit Refusal) → v ≡ 0 → judge v at r ≡ r
judged v at r e = rw e

pub heads_pass : (file : List ℕ) (n i : ℕ) → 4 * (i + n) ≤ length file
    → ((j : ℕ) → i ≤ j → j < i + n → head_fault (total_of file) j (word_at file (4 * j)) ≡ 0) → heads file i n ≡ Ok tt
unfolding heads pick
heads_pass file zero i l f = refl
heads_pass file (suc n) i l f =
    rw (le-ltb (length file) (4 * i + 4) (omega arith))
    (judged _ _ _ (f i (omega arith) (omega arith))
    ∙ heads_pass file n (i + 1) (omega arith) (λ j a b. f j (omega arith) (omega arith)))

must_not : (b : Bool) (v : ℕ) → v ≢ fault.both_memories → must b v ≡ fault.both_memories → ⊥
unfolding must
must_not true v n e = omega arith
must_not false v n e = n e

module _ (t w : ℕ) where
  pub fault_0 : w ≡ type.header → head_fault t 0 w ≡ 0
  unfolding pick must
  fault_0 e = rw e

  pub fault_1 : w ≡ 0 → head_fault t 1 w ≡ 0
  unfolding pick must
  fault_1 e = rw e

  pub fault_2 : 1 ≤ w → w ≤ 64 → head_fault t 2 w ≡ 0
  unfolding pick must
  fault_2 l m = rw (ne_eqb w 0 (omega arith), le-leb w 64 m)

  pub fault_3 : w ≡ 0 → head_fault t 3 w ≡ 0
  unfolding pick must
  fault_3 e = rw e

  pub fault_4 : w + 1 ≡ t → head_fault t 4 w ≡ 0
  unfolding pick must
  fault_4 e = rw (eq-eqb (w + 1) t e)

  pub space_test : (i : ℕ) → head_fault t (5 + i) w ≡ space_fault (space_in w)
  unfolding pick
  space_test i =
      rw (
        ne_eqb (5 + i) 0 (omega arith),
        ne_eqb (5 + i) 1 (omega arith),
        ne_eqb (5 + i) 2 (omega arith),
        ne_eqb (5 + i) 3 (omega arith),
        ne_eqb (5 + i) 4 (omega arith),
      )

  pub fault_space : (i : ℕ) → SpaceFits (space_in w) → head_fault t (5 + i) w ≡ 0
  fault_space i f = space_test i ∙ fits_passes (space_in w) f

  -- ---- what they say

  pub is_0 : head_fault t 0 w ≡ 0 → w ≡ type.header
  unfolding pick
  is_0 e = eqb-true w type.header (must_passed _ _ e tt)

  pub is_1 : head_fault t 1 w ≡ 0 → w ≡ 0
  unfolding pick
  is_1 e = eqb-true w 0 (must_passed _ _ e tt)

  pub is_2 : head_fault t 2 w ≡ 0 → (1 ≤ w) × (w ≤ type.most_hunks)
  unfolding pick
  is_2 e = go (eqb w 0) refl e
    where
      go : (b : Bool) → eqb w 0 ≡ b → pick b fault.header_word (must (leb w type.most_hunks) fault.header_word) ≡ 0
          → (1 ≤ w) × (w ≤ type.most_hunks)
      go true q x = absurd (omega arith)
      go false q x = let z = eqb-false w 0 q in (omega (arith, z), leb-true w type.most_hunks (must_passed _ _ x tt))

  pub is_3 : head_fault t 3 w ≡ 0 → w ≡ 0
  unfolding pick
  is_3 e = eqb-true w 0 (must_passed _ _ e tt)

  pub is_4 : head_fault t 4 w ≡ 0 → w + 1 ≡ t
  unfolding pick
  is_4 e = eqb-true (w + 1) t (must_passed _ _ e tt)

  pub is_space : (i : ℕ) → head_fault t (5 + i) w ≡ 0 → SpaceFits (space_in w)
  is_space i e = passed_fits (space_in w) (sym (space_test i) ∙ e)

  -- 43 is the number of size words, and of no other word
  pub both_late : (i : ℕ) → head_fault t i w ≡ fault.both_memories → 5 ≤ i
  unfolding pick
  both_late zero e = absurd (must_not (eqb w type.header) fault.header_word (λ z. omega arith) e)
  both_late (suc zero) e = absurd (must_not (eqb w 0) fault.library (λ z. omega arith) e)
  both_late (suc (suc zero)) e = absurd (go (eqb w 0) e)
    where
      go : (b : Bool) → pick b fault.header_word (must (leb w type.most_hunks) fault.header_word) ≡ fault.both_memories
          → ⊥
      go true x = omega arith
      go false x = must_not (leb w type.most_hunks) fault.header_word (λ z. omega arith) x
  both_late (suc (suc (suc zero))) e = absurd (must_not (eqb w 0) fault.header_word (λ z. omega arith) e)
  both_late (suc (suc (suc (suc zero)))) e = absurd (must_not (eqb (w + 1) t) fault.header_word (λ z. omega arith) e)
  both_late (suc (suc (suc (suc (suc i))))) e = omega arith

judge_pass : (v at : ℕ) (r : Result Unit Refusal) → judge v at r ≡ Ok tt → (v ≡ 0) × (r ≡ Ok tt)
judge_pass zero at r e = (refl, e)
judge_pass (suc v) at r e = impossible cc

pub each_passes : (file : List ℕ) (n i : ℕ) → heads file i n ≡ Ok tt → (j : ℕ) → i ≤ j → j < i + n → HeadPasses file j
unfolding heads
each_passes file zero i e j l h = absurd (omega arith)
each_passes file (suc n) i e j l h =
    let a = pick_passed (ltb (length file) (4 * i + 4)) _ _ e in
    let b = judge_pass (head_fault (total_of file) i (word_at file (4 * i))) (4 * i) _ a.1 in
    go (dec_lt i j) (ltb-false (length file) (4 * i + 4) a.0, b.0)
    (λ q. each_passes file n (i + 1) b.1 j (omega arith) (omega arith))
  where
    go : Dec (i < j) → HeadPasses file i → (i < j → HeadPasses file j) → HeadPasses file j
    go (yes q) f more = more q
    go (no q) f more = let d : i ≡ j = omega arith in subst (HeadPasses file) d f

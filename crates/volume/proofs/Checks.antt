-- What a test that passes says and what makes it pass; and tests in order, each with its number and what it asks.
-- Assumes nothing.
use Prim.Native.Nat.{ℕ, zero, suc, ◌+◌, ◌≤◌, ◌<◌}
use mathlib.Core.Path.{◌≡◌, refl, sym, ◌∙◌}
use mathlib.Core.Logic.{◌≢◌, inl, inr}
use mathlib.Core.Bool.{Bool, true, false}
use mathlib.Core.List.{List, [], ◌∷◌}
use native.Mathlib.Omega.{arith}
use native.Mathlib.Decide.{dec_lt}
use lib.Dec.{T, eqb, ltb}
use borrow.Author.Tests.{eq-eqb, ne_eqb, eqb-true, eqb-false}
use Rattle.answers.specs.Numbers as fault
use Rattle.answers.specs.Tests.{pick, must, never, first, tests}
use Rattle.answers.proofs.Tests.{first_zero, must_passed, must_passes, never_passed, never_passes}
use Rattle.answers.proofs.Given.{Given, given, none}
use Rattle.answers.proofs.Clashes.{impossible}
use Rattle.reach.specs.References.{At, ◌∈◌}
use Rattle.volume.specs.Blocks.{word_of, sum_of}
use Rattle.volume.specs.Names.{name_good}
use Rattle.volume.specs.Rules.{all_zero}

-- ---- what a passed test says, and what makes it pass

module _ (a b v : ℕ) where
  pub is : must (eqb a b) v ≡ 0 → T (ltb 0 v) → a ≡ b
  is e h = eqb-true a b (must_passed (eqb a b) v e h)

  pub be : a ≡ b → must (eqb a b) v ≡ 0
  be e = must_passes (eqb a b) v (eq-eqb a b e)

  pub is_not : never (eqb a b) v ≡ 0 → T (ltb 0 v) → a ≢ b
  is_not e h = eqb-false a b (never_passed (eqb a b) v e h)

  pub be_not : a ≢ b → never (eqb a b) v ≡ 0
  be_not e = never_passes (eqb a b) v (ne_eqb a b e)

-- ---- a list of tests passes if and only if each does

pub test_at : (i : ℕ) {t : ℕ} (l : List ℕ) → tests l ≡ 0 → At i t l → t ≡ 0
test_at i [] e h = absurd h
test_at zero (x ∷ l) e h = h ∙ (first_zero x (tests l) e).0
test_at (suc i) (x ∷ l) e h = test_at i l (first_zero x (tests l) e).1 h

-- the same by what the list has
pub test_in : {t : ℕ} (l : List ℕ) → tests l ≡ 0 → t ∈ l → t ≡ 0
test_in [] e h = absurd h
test_in (x ∷ l) e (inl h) = h ∙ (first_zero x (tests l) e).0
test_in (x ∷ l) e (inr h) = test_in l (first_zero x (tests l) e).1 h

-- that it has it is found
pub ruleset member = (inl, inr, refl)

-- so a word is what a test of it asks, or forbids
pub word_in : (a b v : ℕ) (l : List ℕ) → tests l ≡ 0 → must (eqb a b) v ∈ l → T (ltb 0 v) → a ≡ b
word_in a b v l e h p = is a b v (test_in l e h) p

pub word_not_in : (a b v : ℕ) (l : List ℕ) → tests l ≡ 0 → never (eqb a b) v ∈ l → T (ltb 0 v) → a ≢ b
word_not_in a b v l e h p = is_not a b v (test_in l e h) p

infixr 5 ◌&◌
pub ◌&◌ : {x n : ℕ} → x ≡ 0 → n ≡ 0 → first x n ≡ 0
unfolding first
p & q = rw p q

-- ---- words that are 0

pub zeros_there : (s : List ℕ) (k i n : ℕ) → all_zero s k i n ≡ true → (j : ℕ) → i ≤ j → j < i + n → word_of s k j ≡ 0
unfolding all_zero pick
zeros_there s k i zero e j l h = absurd (omega arith)
zeros_there s k i (suc n) e j l h = go (eqb (word_of s k i) 0) refl e (zeros_there s k (suc i) n) (dec_lt i j)
  where
    go : (t : Bool) → eqb (word_of s k i) 0 ≡ t → pick t (all_zero s k (suc i) n) false ≡ true
        → (all_zero s k (suc i) n ≡ true → (j : ℕ) → suc i ≤ j → j < suc i + n → word_of s k j ≡ 0) → Dec (i < j)
        → word_of s k j ≡ 0
    go true p e ih (yes q) = ih e j q (omega arith)
    go true p e ih (no q) = let g : j ≡ i = omega arith in rw g (eqb-true (word_of s k i) 0 p)
    go false p e ih q = impossible cc

pub zeros_found : (s : List ℕ) (k i n : ℕ) → ((j : ℕ) → i ≤ j → j < i + n → word_of s k j ≡ 0) → all_zero s k i n ≡ true
unfolding all_zero pick
zeros_found s k i zero f = refl
zeros_found s k i (suc n) f =
    rw (eq-eqb (word_of s k i) 0 (f i (omega arith) (omega arith)))
    (zeros_found s k (suc i) n (λ j l h. f j (omega arith) (omega arith)))

-- ---- tests in order: x is 0 if and only if P holds, else its number n

pub record Test (n x : ℕ) (P : Type 0) : Type 0 where
  pub gives : Given (n ∷ []) x
  pub passed : x ≡ 0 → P
  pub passes : P → x ≡ 0

module _ {n x : ℕ} {P : Type 0} (r : Test n x P) where
  one : x ≢ 0 → x ≡ n
  one z = go (r.gives.member z)
    where
      go : x ∈ (n ∷ []) → x ≡ n
      go (inl e) = e
      go (inr e) = absurd e

  pub broken : {v : ℕ} → v ≢ 0 → x ≡ v → (P → ⊥) × (v ≡ n)
  broken {v} z e = ((λ p. z (sym e ∙ r.passes p)), sym e ∙ one (λ q. z (sym e ∙ q)))

  pub breaks : {v : ℕ} → (P → ⊥) → v ≡ n → x ≡ v
  breaks {v} q e = one (λ z. q (r.passed z)) ∙ sym e

  module _ {v : ℕ} (y : ℕ) where
    -- v is its number, or it passes and v is the number of what follows
    pub down : {C : Type 0} → v ≢ 0 → ((P → ⊥) → v ≡ n → C) → (P → y ≡ v → C) → first x y ≡ v → C
    unfolding first
    down {C} z f g e = go x refl e
      where
        go : (w : ℕ) → x ≡ w → first w y ≡ v → C
        go zero q e = g (r.passed q) e
        go (suc w) q e = f (broken z (q ∙ e)).0 (broken z (q ∙ e)).1

    pub fall : v ≢ 0 → (P → ⊥) → v ≡ n → first x y ≡ v
    unfolding first
    fall z q e = go x (breaks q e)
      where
        go : (w : ℕ) → w ≡ v → first w y ≡ v
        go zero h = absurd (z (sym h))
        go (suc w) h = h

    pub on : P → y ≡ v → first x y ≡ v
    unfolding first
    on p e = rw (r.passes p) e

-- a test that is made only where the flag t is true
pub asked : {n x : ℕ} {P : Type 0} (t : Bool) → Test n x P → Test n (pick t x 0) (t ≡ true → P)
unfolding pick
asked true r = record { gives = r.gives; passed = λ e h. r.passed e; passes = λ f. r.passes (f refl) }
asked false r = record { gives = none; passed = λ e h. impossible cc; passes = λ f. refl }

-- the last
pub last : (x : ℕ) → first x 0 ≡ x
unfolding first
last zero = refl
last (suc x) = refl

-- ---- tests of one word, or of a Bool

pub word_test : (a b v : ℕ) → Given (v ∷ []) (must (eqb a b) v) → T (ltb 0 v) → Test v (must (eqb a b) v) (a ≡ b)
word_test a b v g h = record { gives = g; passed = λ e. is a b v e h; passes = be a b v }

pub sum_test : (s : List ℕ) (k : ℕ) → Test fault.block_sum (must (eqb (sum_of s k) 0) fault.block_sum) (sum_of s k ≡ 0)
sum_test s k = word_test (sum_of s k) 0 fault.block_sum (search given depth 8) tt

pub name_test : (s : List ℕ) (k : ℕ) → Test fault.bad_name (must (name_good s k) fault.bad_name) (name_good s k ≡ true)
name_test s k =
    record {
      gives = search given depth 8;
      passed = λ e. must_passed (name_good s k) fault.bad_name e tt;
      passes = must_passes (name_good s k) fault.bad_name;
    }

-- a name that is not good
pub bad_name_lem : (s : List ℕ) (k : ℕ) → (name_good s k ≡ true → ⊥) → name_good s k ≡ false
bad_name_lem s k h = go (name_good s k) refl
  where
    go : (b : Bool) → name_good s k ≡ b → name_good s k ≡ false
    go true e = absurd (h e)
    go false e = e

pub not_good : (s : List ℕ) (k : ℕ) → name_good s k ≡ false → name_good s k ≡ true → ⊥
not_good s k p q = impossible cc

-- no number is 0
pub some : {v n : ℕ} → v ≡ n → T (ltb 0 n) → v ≢ 0
some {v} {n} p h q = go n h (sym p ∙ q)
  where
    go : (n : ℕ) → T (ltb 0 n) → n ≢ 0
    go zero h e = h
    go (suc n) h e = absurd (omega arith)

-- a number is one of some numbers, or not
pub among : (x : ℕ) (l : List ℕ) → Dec (x ∈ l)
among x [] = no (λ h. h)
among x (y ∷ l) = go (eqb x y) refl (among x l)
  where
    go : (b : Bool) → eqb x y ≡ b → Dec (x ∈ l) → Dec (x ∈ (y ∷ l))
    go true q ih = yes (inl (eqb-true _ _ q))
    go false q (yes h) = yes (inr h)
    go false q (no h) = no (neither (eqb-false _ _ q) h)
      where
        neither : x ≢ y → (x ∈ l → ⊥) → x ∈ (y ∷ l) → ⊥
        neither a b (inl e) = a e
        neither a b (inr e) = b e

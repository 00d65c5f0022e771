-- Laws of lists of tests. `faults` is for `search` at each return of a function that makes them. Assumes nothing.
use Prim.Native.Nat.{ℕ, zero, suc, ◌≤◌, ◌<◌}
use mathlib.Core.Path.{◌≡◌, refl, sym, ◌∙◌}
use mathlib.Core.Bool.{Bool, true, false}
use mathlib.Core.List.{List, [], ◌∷◌, ◌++◌}
use native.Mathlib.Omega.{arith}
use lib.Dec.{T, leb, ltb, eqb, lt→ltb}
use borrow.Author.Tests.{eq-eqb, ne_eqb, le-leb, lt-leb, lt-ltb, le-ltb}
use Rattle.std.specs.Prelude.{Result, Ok, Err, IsErrAnd}
use Rattle.answers.specs.declared.Fault.{Fault}
use Rattle.std.proofs.lemmas.Result.{err_from_is_err_and}
use Rattle.answers.specs.declared.Refusal.{Refusal}
use Rattle.answers.specs.Refusals.{number_of, told}
use Rattle.answers.specs.Tests.{pick, must, never, first, tests}
use Rattle.answers.proofs.Clashes.{impossible}

-- ---- the first of two numbers

pub first_zero : (a b : ℕ) → first a b ≡ 0 → (a ≡ 0) × (b ≡ 0)
unfolding first
first_zero zero b e = (refl, e)
first_zero (suc a) b e = absurd (omega arith)

pub first_refuses : (a b : ℕ) → 0 < a → first a b ≡ a
unfolding first
first_refuses zero b h = absurd (omega arith)
first_refuses (suc a) b h = refl

-- ---- what a passed test says, and what makes it pass

-- v is a literal other than 0
pub must_passed : (t : Bool) (v : ℕ) → must t v ≡ 0 → T (ltb 0 v) → t ≡ true
unfolding must
must_passed true v e h = refl
must_passed false zero e h = absurd h
must_passed false (suc v) e h = absurd (omega arith)

pub must_passes : (t : Bool) (v : ℕ) → t ≡ true → must t v ≡ 0
unfolding must
must_passes true v e = refl
must_passes false v e = impossible cc

pub never_passed : (t : Bool) (v : ℕ) → never t v ≡ 0 → T (ltb 0 v) → t ≡ false
unfolding never
never_passed true zero e h = absurd h
never_passed true (suc v) e h = absurd (omega arith)
never_passed false v e h = refl

pub never_passes : (t : Bool) (v : ℕ) → t ≡ false → never t v ≡ 0
unfolding never
never_passes true v e = impossible cc
never_passes false v e = refl

pub pick_passed : (b : Bool) (r : Refusal) (h : Result Unit Refusal) → pick b (Err r) h ≡ Ok tt
    → (b ≡ false) × (h ≡ Ok tt)
unfolding pick
pick_passed true r h q = impossible cc
pick_passed false r h q = (refl, q)

-- ---- the tests of a callee, which a `?` hands on

pub told_ok : (s : Result Unit Fault) {u : Unit {0}} → s ≡ Ok u → told s ≡ 0
told_ok s e = rw e

-- no fault has the number 0
numbered : (v : Fault) → number_of v ≡ 0 → ⊥
numbered v e = grind arith

pub told_err : (s : Result Unit Fault) {v : Fault} → s ≡ Err v → told s ≡ 0 → ⊥
told_err s e z = numbered _ (rw e at z)

-- r is returned
pub handed_on : (r s : Result Unit Fault) {v : Fault} → IsErrAnd r (λ e. e ≡ v) → s ≡ Err v → told r ≡ told s
handed_on r s h e = let p = err_from_is_err_and r h in rw (p.1, p.2, e)

-- ---- a test at a time, as code makes them

pub go : (r a b : ℕ) → a ≡ 0 → r ≡ b → r ≡ first a b
unfolding first
go r a b p q = rw p q

-- v is a literal other than 0
pub stop : (v a b : ℕ) → T (ltb 0 v) → a ≡ v → v ≡ first a b
unfolding first
stop zero a b t p = absurd t
stop (suc v) a b t p = rw p

module _ (v w a b : ℕ) (h : w ≡ a) where
  pub must_eq : w ≡ b → must (eqb a b) v ≡ 0
  unfolding must
  must_eq q = rw (eq-eqb a b (sym h ∙ q))

  pub must_ne : (w ≡ b → ⊥) → must (eqb a b) v ≡ v
  unfolding must
  must_ne q = rw (ne_eqb a b (λ e. q (h ∙ e)))

  pub never_eq : w ≡ b → never (eqb a b) v ≡ v
  unfolding never
  never_eq q = rw (eq-eqb a b (sym h ∙ q))

  pub never_ne : (w ≡ b → ⊥) → never (eqb a b) v ≡ 0
  unfolding never
  never_ne q = rw (ne_eqb a b (λ e. q (h ∙ e)))

module _ (w a b x y v : ℕ) (h : w ≡ a) where
  pub pick_eq : w ≡ b → x ≡ v → pick (eqb a b) x y ≡ v
  unfolding pick
  pick_eq q e = rw (eq-eqb a b (sym h ∙ q)) e

  pub pick_ne : (w ≡ b → ⊥) → y ≡ v → pick (eqb a b) x y ≡ v
  unfolding pick
  pick_ne q e = rw (ne_eqb a b (λ e'. q (h ∙ e'))) e

-- one list after the other
pub tests_append : (l m : List ℕ) → tests (l ++ m) ≡ first (tests l) (tests m)
unfolding first
tests_append [] m = refl
tests_append (zero ∷ l) m = tests_append l m
tests_append (suc x ∷ l) m = refl

pub then_go : (r f : ℕ) (l m : List ℕ) → f ≡ tests l → f ≡ 0 → r ≡ tests m → r ≡ tests (l ++ m)
then_go r f l m p q e = rw (tests_append l m) (go r (tests l) (tests m) (sym p ∙ q) e)

pub then_stop : (f : ℕ) (l m : List ℕ) → f ≡ tests l → (f ≡ 0 → ⊥) → f ≡ tests (l ++ m)
unfolding first
then_stop zero l m p q = absurd (q refl)
then_stop (suc f) l m p q =
    rw (tests_append l m) (stop (suc f) (tests l) (tests m) (lt→ltb 0 (suc f) (omega arith)) (sym p))

module _ (n w v a b : ℕ) (h : w ≡ a) (k : v ≡ b) where
  pub must_le : w ≤ v → must (leb a b) n ≡ 0
  unfolding must
  must_le q = rw (← h, ← k, le-leb w v q)

  pub must_gt : v < w → must (leb a b) n ≡ n
  unfolding must
  must_gt q = rw (← h, ← k, lt-leb w v q)

module _ (v : ℕ) (r t : Bool) (h : r ≡ t) where
  pub must_true : r ≡ true → must t v ≡ 0
  unfolding must
  must_true q = rw (← h, q)

  pub must_false : r ≡ false → must t v ≡ v
  unfolding must
  must_false q = rw (← h, q)

-- both sides are values of the code
module _ (n w v a b : ℕ) (h : w ≡ a) (k : v ≡ b) where
  pub must_same : w ≡ v → must (eqb a b) n ≡ 0
  unfolding must
  must_same q = rw (← h, ← k, eq-eqb w v q)

  pub must_differ : (w ≡ v → ⊥) → must (eqb a b) n ≡ n
  unfolding must
  must_differ q = rw (← h, ← k, ne_eqb w v q)

-- both sides are parameters of the code
module _ (v a b : ℕ) where
  pub must_is : a ≡ b → must (eqb a b) v ≡ 0
  unfolding must
  must_is q = rw (eq-eqb a b q)

  pub must_is_not : (a ≡ b → ⊥) → must (eqb a b) v ≡ v
  unfolding must
  must_is_not q = rw (ne_eqb a b q)

-- a parameter, and a value of the code
module _ (w a b x y v : ℕ) (h : w ≡ b) where
  pub pick_at : a ≡ w → x ≡ v → pick (eqb a b) x y ≡ v
  unfolding pick
  pick_at q e = rw (eq-eqb a b (q ∙ h)) e

  pub pick_off : (a ≡ w → ⊥) → y ≡ v → pick (eqb a b) x y ≡ v
  unfolding pick
  pick_off q e = rw (ne_eqb a b (λ z. q (z ∙ sym h))) e

-- a parameter, and a number
module _ (a b x y v : ℕ) where
  pub pick_is : a ≡ b → x ≡ v → pick (eqb a b) x y ≡ v
  unfolding pick
  pick_is q e = rw (eq-eqb a b q) e

  pub pick_is_not : (a ≡ b → ⊥) → y ≡ v → pick (eqb a b) x y ≡ v
  unfolding pick
  pick_is_not q e = rw (ne_eqb a b q) e

  pub pick_most : a ≤ b → x ≡ v → pick (leb a b) x y ≡ v
  unfolding pick
  pick_most q e = rw (le-leb a b q) e

  pub pick_above : b < a → y ≡ v → pick (leb a b) x y ≡ v
  unfolding pick
  pick_above q e = rw (lt-leb a b q) e

-- a choice by a flag of the disk
module _ (t : Bool) (x y v : ℕ) where
  pub pick_true : t ≡ true → x ≡ v → pick t x y ≡ v
  unfolding pick
  pick_true q e = rw q e

  pub pick_false : t ≡ false → y ≡ v → pick t x y ≡ v
  unfolding pick
  pick_false q e = rw q e

-- by a flag that the code computed
module _ (r t : Bool) (x y v : ℕ) (h : r ≡ t) where
  pub pick_yes : r ≡ true → x ≡ v → pick t x y ≡ v
  pick_yes q e = pick_true t x y v (sym h ∙ q) e

  pub pick_no : r ≡ false → y ≡ v → pick t x y ≡ v
  pick_no q e = pick_false t x y v (sym h ∙ q) e

pub ruleset faults = (
  tt,
  go,
  stop,
  must_eq,
  must_ne,
  never_eq,
  never_ne,
  pick_eq,
  pick_ne,
  must_le,
  must_gt,
  must_true,
  must_false,
  must_same,
  must_differ,
  must_is,
  must_is_not,
  pick_at,
  pick_off,
  pick_is,
  pick_is_not,
  pick_most,
  pick_above,
  pick_true,
  pick_false,
  pick_yes,
  pick_no,
)

-- ---- a choice between values, as code makes it: by its parameters, or by values that it computed

module _ {X : Type 0} (r x y : X) (a b : ℕ) where
  pub if_eq : a ≡ b → r ≡ x → r ≡ pick (eqb a b) x y
  unfolding pick
  if_eq q e = rw (eq-eqb a b q) e

  pub if_ne : (a ≡ b → ⊥) → r ≡ y → r ≡ pick (eqb a b) x y
  unfolding pick
  if_ne q e = rw (ne_eqb a b q) e

  pub if_lt : a < b → r ≡ x → r ≡ pick (ltb a b) x y
  unfolding pick
  if_lt q e = rw (lt-ltb a b q) e

  pub if_ge : b ≤ a → r ≡ y → r ≡ pick (ltb a b) x y
  unfolding pick
  if_ge q e = rw (le-ltb a b q) e

  pub if_le : a ≤ b → r ≡ x → r ≡ pick (leb a b) x y
  unfolding pick
  if_le q e = rw (le-leb a b q) e

  pub if_gt : b < a → r ≡ y → r ≡ pick (leb a b) x y
  unfolding pick
  if_gt q e = rw (lt-leb a b q) e

  -- v is a value of the code
  module _ (v : ℕ) where
    pub if_eq_right : v ≡ b → a ≡ v → r ≡ x → r ≡ pick (eqb a b) x y
    if_eq_right p q e = if_eq (q ∙ p) e

    pub if_ne_right : v ≡ b → (a ≡ v → ⊥) → r ≡ y → r ≡ pick (eqb a b) x y
    if_ne_right p q e = if_ne (λ z. q (z ∙ sym p)) e

    pub if_lt_left : v ≡ a → v < b → r ≡ x → r ≡ pick (ltb a b) x y
    if_lt_left p q e = if_lt (omega (arith, p)) e

    pub if_ge_left : v ≡ a → b ≤ v → r ≡ y → r ≡ pick (ltb a b) x y
    if_ge_left p q e = if_ge (omega (arith, p)) e

    pub if_lt_right : v ≡ b → a < v → r ≡ x → r ≡ pick (ltb a b) x y
    if_lt_right p q e = if_lt (omega (arith, p)) e

    pub if_ge_right : v ≡ b → v ≤ a → r ≡ y → r ≡ pick (ltb a b) x y
    if_ge_right p q e = if_ge (omega (arith, p)) e

-- a test's number, as it is returned
module _ (a b v : ℕ) where
  pub gives_none : a ≡ b → 0 ≡ must (eqb a b) v
  unfolding must
  gives_none q = rw (eq-eqb a b q)

  pub gives : (a ≡ b → ⊥) → v ≡ must (eqb a b) v
  unfolding must
  gives q = rw (ne_eqb a b q)

  pub gives_none_le : a ≤ b → 0 ≡ must (leb a b) v
  unfolding must
  gives_none_le q = rw (le-leb a b q)

  pub gives_le : b < a → v ≡ must (leb a b) v
  unfolding must
  gives_le q = rw (lt-leb a b q)

  module _ (w : ℕ) (p : w ≡ b) where
    pub gives_none_right : a ≡ w → 0 ≡ must (eqb a b) v
    gives_none_right q = gives_none (q ∙ p)

    pub gives_right : (a ≡ w → ⊥) → v ≡ must (eqb a b) v
    gives_right q = gives (λ z. q (z ∙ sym p))

pub ruleset choices = (
  gives_none,
  gives,
  gives_none_le,
  gives_le,
  gives_none_right,
  gives_right,
  if_eq,
  if_ne,
  if_lt,
  if_ge,
  if_le,
  if_gt,
  if_eq_right,
  if_ne_right,
  if_lt_left,
  if_ge_left,
  if_lt_right,
  if_ge_right,
)

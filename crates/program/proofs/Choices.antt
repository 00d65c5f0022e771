-- What a choice by a test of two numbers gives, as the code's branches know the numbers. Assumes nothing.
use Prim.Native.Nat.{ℕ, ◌<◌, ◌≤◌}
use mathlib.Core.Path.{◌≡◌}
use mathlib.Core.Logic.{◌≢◌}
use lib.Dec.{leb, ltb, eqb}
use borrow.Author.Tests.{eq-eqb, ne_eqb, le-leb, lt-leb, lt-ltb, le-ltb}
use Rattle.answers.specs.Tests.{pick, must}

module _ {X : Type 0} (a b : ℕ) (x y : X) where
  pub pick_same : a ≡ b → pick (eqb a b) x y ≡ x
  unfolding pick
  pick_same e = rw (eq-eqb a b e)

  pub pick_other : a ≢ b → pick (eqb a b) x y ≡ y
  unfolding pick
  pick_other e = rw (ne_eqb a b e)

  pub pick_less : a < b → pick (ltb a b) x y ≡ x
  unfolding pick
  pick_less e = rw (lt-ltb a b e)

  pub pick_not_less : b ≤ a → pick (ltb a b) x y ≡ y
  unfolding pick
  pick_not_less e = rw (le-ltb a b e)

  pub pick_at_most : a ≤ b → pick (leb a b) x y ≡ x
  unfolding pick
  pick_at_most e = rw (le-leb a b e)

  pub pick_more : b < a → pick (leb a b) x y ≡ y
  unfolding pick
  pick_more e = rw (lt-leb a b e)

module _ (a b v : ℕ) where
  pub must_same : a ≡ b → must (eqb a b) v ≡ 0
  unfolding must
  must_same e = rw (eq-eqb a b e)

  pub must_other : a ≢ b → must (eqb a b) v ≡ v
  unfolding must
  must_other e = rw (ne_eqb a b e)

  pub must_at_most : a ≤ b → must (leb a b) v ≡ 0
  unfolding must
  must_at_most e = rw (le-leb a b e)

  pub must_more : b < a → must (leb a b) v ≡ v
  unfolding must
  must_more e = rw (lt-leb a b e)

pub ruleset choices = (
  pick_same,
  pick_other,
  pick_less,
  pick_not_less,
  pick_at_most,
  pick_more,
  must_same,
  must_other,
  must_at_most,
  must_more,
)

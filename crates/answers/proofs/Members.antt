-- What numbers are in a list, by computing: where the list is known, `listed`, `unlisted` and `in_part` ask for `tt`.
-- Assumes nothing.
use Prim.Native.Nat.{ℕ}
use mathlib.Core.Path.{◌≡◌, refl}
use mathlib.Core.Logic.{inl, inr}
use mathlib.Core.Bool.{Bool, true, false, not, ◌&&◌, ◌||◌}
use mathlib.Core.List.{List, [], ◌∷◌}
use lib.Dec.{T, T_not, eqb, eqb_refl, eqb→eq}
use borrow.Author.Tests.{eq-eqb, ne_eqb}
use Rattle.answers.specs.Members.{◌∈◌, has}

-- whether each of ms is
abbrev pub part : List ℕ → List ℕ → Bool
part [] ns = true
part (m ∷ ms) ns = has ns m && part ms ns

or_left : (a b : Bool) → T a → T (a || b)
or_left true b h = tt
or_left false b h = absurd h

or_right : (a b : Bool) → T b → T (a || b)
or_right true b h = tt
or_right false b h = h

pub listed : (ns : List ℕ) (v : ℕ) → T (has ns v) → v ∈ ns
listed [] v h = h
listed (x ∷ ns) v h = go (eqb v x) refl h (listed ns v)
  where
    go : (b : Bool) → eqb v x ≡ b → T (b || has ns v) → (T (has ns v) → v ∈ ns) → v ∈ (x ∷ ns)
    go true e h more = inl (eqb→eq v x (rw e tt))
    go false e h more = inr (more h)

pub found : (ns : List ℕ) (v : ℕ) → v ∈ ns → T (has ns v)
found [] v h = h
found (x ∷ ns) v (inl e) = or_left (eqb v x) (has ns v) (rw e (eqb_refl x))
found (x ∷ ns) v (inr h) = or_right (eqb v x) (has ns v) (found ns v h)

-- what holds of each number of a list, one after the other, holds of any number that the list has
abbrev pub Each : (ℕ → Type 0) → List ℕ → Type 0
Each P [] = Unit {0}
Each P (x ∷ ns) = P x × Each P ns

pub each_in : (P : ℕ → Type 0) (ns : List ℕ) → Each P ns → (v : ℕ) → v ∈ ns → P v
each_in P [] h v m = absurd m
each_in P (x ∷ ns) h v (inl e) = rw e h.0
each_in P (x ∷ ns) h v (inr m) = each_in P ns h.1 v m

-- whether a number is one of two, as code tests it
module _ (a b v : ℕ) where
  pub first_of_two : v ≡ a → true ≡ has (a ∷ b ∷ []) v
  first_of_two e = rw (eq-eqb v a e) refl

  pub second_of_two : (v ≡ a → ⊥) → eqb v b ≡ has (a ∷ b ∷ []) v
  second_of_two n = rw (ne_eqb v a n) (go (eqb v b))
    where
      go : (t : Bool) → t ≡ (t || false)
      go true = refl
      go false = refl

-- a number of a list is none that the list has not
pub unlisted : {X : Type 0} (ns : List ℕ) (v w : ℕ) → T (not (has ns w)) → v ∈ ns → v ≡ w → X
unlisted ns v w h m e = absurd (T_not (has ns w) h (rw e at (found ns v m)))

-- a number of a list is in every list that has each of its numbers
pub in_part : (ms ns : List ℕ) (v : ℕ) → T (part ms ns) → v ∈ ms → v ∈ ns
in_part [] ns v h m = absurd m
in_part (x ∷ ms) ns v h m = go (has ns x) refl h m (in_part ms ns v)
  where
    go : (b : Bool) → has ns x ≡ b → T (b && part ms ns) → v ∈ (x ∷ ms) → (T (part ms ns) → v ∈ ms → v ∈ ns) → v ∈ ns
    go true e h (inl q) more = listed ns v (rw (q, e) tt)
    go true e h (inr q) more = more h q
    go false e h m more = absurd h

-- Facts on the positions of a list and of two lists in a row. Assumes nothing.
use Prim.Native.Nat.{ℕ, zero, suc, ◌+◌, ◌<◌}
use mathlib.Core.Path.{◌≡◌, refl}
use mathlib.Core.List.{List, [], ◌∷◌, ◌++◌}
use native.Mathlib.Omega.{arith}
use lib.ListN.{length}
use Rattle.reach.specs.References.{At}

module _ {A : Type 0} where
  pub at_below : (a : A) (i : ℕ) (l : List A) → At i a l → i < length l
  at_below a i [] h = absurd h
  at_below a zero (x ∷ l) h = omega arith
  at_below a (suc i) (x ∷ l) h = omega (arith, at_below a i l h)

  pub at_left : (a : A) (i : ℕ) (xs ys : List A) → At i a xs → At i a (xs ++ ys)
  at_left a i [] ys h = absurd h
  at_left a zero (x ∷ xs) ys h = h
  at_left a (suc i) (x ∷ xs) ys h = at_left a i xs ys h

  pub at_end : (a : A) (xs ys : List A) → At 0 a ys → At (length xs) a (xs ++ ys)
  at_end a [] ys h = h
  at_end a (x ∷ xs) ys h = at_end a xs ys h

  -- position i of ys is position n of xs and ys in a row
  pub at_right : (a : A) (n i : ℕ) (xs ys : List A) → n ≡ length xs + i → At i a ys → At n a (xs ++ ys)
  at_right a n i [] ys e h = let z : n ≡ i = omega (arith, e) in rw z h
  at_right a zero i (x ∷ xs) ys e h = absurd (omega (arith, e))
  at_right a (suc n) i (x ∷ xs) ys e h = at_right a n i xs ys (omega (arith, e)) h

  pub right_at : (a : A) (n i : ℕ) (xs ys : List A) → n ≡ length xs + i → At n a (xs ++ ys) → At i a ys
  right_at a n i [] ys e h = let z : n ≡ i = omega (arith, e) in rw z at h
  right_at a zero i (x ∷ xs) ys e h = absurd (omega (arith, e))
  right_at a (suc n) i (x ∷ xs) ys e h = right_at a n i xs ys (omega (arith, e)) h

  pub at_some : (i : ℕ) (l : List A) → i < length l → (a : A) × At i a l
  at_some i [] h = absurd (omega arith)
  at_some zero (x ∷ l) h = (x, refl)
  at_some (suc i) (x ∷ l) h = at_some i l (omega arith)

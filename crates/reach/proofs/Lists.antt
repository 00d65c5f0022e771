-- Facts on the positions of a list (`At`), membership (`◌∈◌`) and lists in which nothing stands twice (`Uniq`).
-- Assumes nothing.
use mathlib.Core.Path.{◌≡◌, refl, sym, ap, ◌∙◌}
use mathlib.Core.Logic.{◌⊎◌, inl, inr}
use mathlib.Core.List.{List, [], ◌∷◌, ◌++◌, map}
use Prim.Native.Nat.{ℕ, zero, suc}
use Rattle.reach.specs.References.{At, ◌∈◌, Uniq}

module _ {A : Type 0} where
  pub in_left : (a : A) (xs ys : List A) → a ∈ xs → a ∈ (xs ++ ys)
  in_left a [] ys h = absurd h
  in_left a (x ∷ xs) ys (inl e) = inl e
  in_left a (x ∷ xs) ys (inr h) = inr (in_left a xs ys h)

  pub in_right : (a : A) (xs ys : List A) → a ∈ ys → a ∈ (xs ++ ys)
  in_right a [] ys h = h
  in_right a (x ∷ xs) ys h = inr (in_right a xs ys h)

  pub in_either : (a : A) (xs ys : List A) → a ∈ (xs ++ ys) → (a ∈ xs) ⊎ (a ∈ ys)
  in_either a [] ys h = inr h
  in_either a (x ∷ xs) ys (inl e) = inl (inl e)
  in_either a (x ∷ xs) ys (inr h) = go (in_either a xs ys h)
    where
      go : (a ∈ xs) ⊎ (a ∈ ys) → (a ∈ (x ∷ xs)) ⊎ (a ∈ ys)
      go (inl h) = inl (inr h)
      go (inr h) = inr h

  pub at_in : (a : A) (i : ℕ) (l : List A) → At i a l → a ∈ l
  at_in a i [] h = h
  at_in a zero (x ∷ l) h = inl h
  at_in a (suc i) (x ∷ l) h = inr (at_in a i l h)

  pub in_at : (a : A) (l : List A) → a ∈ l → (i : ℕ) × At i a l
  in_at a [] h = absurd h
  in_at a (x ∷ l) (inl e) = (zero, e)
  in_at a (x ∷ l) (inr h) = let r = in_at a l h in (suc r.0, r.1)

  pub at_one : {a b : A} (i : ℕ) (l : List A) → At i a l → At i b l → a ≡ b
  at_one i [] h h' = absurd h
  at_one zero (x ∷ l) h h' = h ∙ sym h'
  at_one (suc i) (x ∷ l) h h' = at_one i l h h'

  pub uniq_append : (xs ys : List A) → Uniq xs → Uniq ys → ((x : A) → x ∈ xs → x ∈ ys → ⊥) → Uniq (xs ++ ys)
  uniq_append [] ys u v h = v
  uniq_append (x ∷ xs) ys u v h = (not_in, uniq_append xs ys u.1 v (λ y m m'. h y (inr m) m'))
    where
      split : (x ∈ xs) ⊎ (x ∈ ys) → ⊥
      split (inl m) = u.0 m
      split (inr m) = h x (inl refl) m

      not_in : ¬ (x ∈ (xs ++ ys))
      not_in m = split (in_either x xs ys m)

module _ {A B : Type 0} (f : A → B) where
  pub in_map : (a : A) (l : List A) → a ∈ l → f a ∈ map f l
  in_map a [] h = h
  in_map a (x ∷ l) (inl e) = inl (ap f e)
  in_map a (x ∷ l) (inr h) = inr (in_map a l h)

  pub map_in : (b : B) (l : List A) → b ∈ map f l → (a : A) × (a ∈ l) × (b ≡ f a)
  map_in b [] h = absurd h
  map_in b (x ∷ l) (inl e) = (x, inl refl, e)
  map_in b (x ∷ l) (inr h) = let r = map_in b l h in (r.0, inr r.1, r.2)

  pub at_map : (i : ℕ) (a : A) (l : List A) → At i a l → At i (f a) (map f l)
  at_map i a [] h = h
  at_map zero a (x ∷ l) h = ap f h
  at_map (suc i) a (x ∷ l) h = at_map i a l h

  pub map_at : (i : ℕ) (b : B) (l : List A) → At i b (map f l) → (a : A) × At i a l × (b ≡ f a)
  map_at i b [] h = absurd h
  map_at zero b (x ∷ l) h = (x, refl, h)
  map_at (suc i) b (x ∷ l) h = map_at i b l h

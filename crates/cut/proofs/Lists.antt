-- Lists whose keys stand once: places, parts and joins. Assumes nothing.
use mathlib.Core.Path.{◌≡◌, refl, sym, ap}
use mathlib.Core.Logic.{◌≢◌, ◌⊎◌, inl, inr}
use mathlib.Core.List.{List, [], ◌∷◌, ◌++◌, map}
use Prim.Native.Nat.{ℕ, zero, suc}
use native.Mathlib.Omega.{arith}
use Rattle.reach.specs.References.{At, ◌∈◌, Uniq}
use Rattle.reach.proofs.Lists.{in_left, in_right, in_either, at_in, in_at, in_map, map_in}

-- of two parts
pub in_three : {A : Type 0} (a : A) (xs ys zs : List A) → a ∈ (xs ++ (ys ++ zs)) → (a ∈ (xs ++ zs)) ⊎ (a ∈ ys)
in_three a xs ys zs h = go (in_either a xs (ys ++ zs) h)
  where
    last : (a ∈ ys) ⊎ (a ∈ zs) → (a ∈ (xs ++ zs)) ⊎ (a ∈ ys)
    last (inl m) = inr m
    last (inr m) = inl (in_right a xs zs m)

    go : (a ∈ xs) ⊎ (a ∈ (ys ++ zs)) → (a ∈ (xs ++ zs)) ⊎ (a ∈ ys)
    go (inl m) = inl (in_left a xs zs m)
    go (inr m) = last (in_either a ys zs m)

-- the other two
pub in_outer : {A : Type 0} (a : A) (xs ys zs : List A) → a ∈ (xs ++ zs) → a ∈ (xs ++ (ys ++ zs))
in_outer a xs ys zs h = go (in_either a xs zs h)
  where
    go : (a ∈ xs) ⊎ (a ∈ zs) → a ∈ (xs ++ (ys ++ zs))
    go (inl m) = in_left a xs (ys ++ zs) m
    go (inr m) = in_right a xs (ys ++ zs) (in_right a ys zs m)

pub in_middle : {A : Type 0} (a : A) (xs ys zs : List A) → a ∈ ys → a ∈ (xs ++ (ys ++ zs))
in_middle a xs ys zs m = in_right a xs (ys ++ zs) (in_left a ys zs m)

module _ {A : Type 0} (key : A → ℕ) where
  -- no key stands twice
  abbrev pub Once : List A → Type 0
  Once l = Uniq (map key l)

  abbrev pub Apart : List A → List A → Type 0
  Apart xs ys = (a b : A) → a ∈ xs → b ∈ ys → key a ≢ key b

  -- ---- by places

  abbrev Placed : List A → Type 0
  Placed l = (i j : ℕ) (a b : A) → At i a l → At j b l → key a ≡ key b → i ≡ j

  pub placed_once : (l : List A) → Placed l → Once l
  placed_once [] h = tt
  placed_once (x ∷ l) h = (not_in, placed_once l (λ i j a b u v e. let q = h (suc i) (suc j) a b u v e in omega arith))
    where
      not_in : ¬ (key x ∈ map key l)
      not_in m =
          let r = map_in key (key x) l m in
          let w = in_at r.0 l r.1 in
          let q = h 0 (suc w.0) x r.0 refl w.1 r.2 in
          absurd (omega arith)

  pub once_placed : (l : List A) → Once l → Placed l
  once_placed [] u i j a b h g e = absurd h
  once_placed (x ∷ l) u zero zero a b h g e = refl
  once_placed (x ∷ l) u zero (suc j) a b h g e = absurd (u.0 (rw (← (ap key h), e) (in_map key b l (at_in b j l g))))
  once_placed (x ∷ l) u (suc i) zero a b h g e = absurd (u.0 (rw (← (ap key g), ← e) (in_map key a l (at_in a i l h))))
  once_placed (x ∷ l) u (suc i) (suc j) a b h g e = ap suc (once_placed l u.1 i j a b h g e)

  -- ---- by parts

  pub once_join : (xs ys : List A) → Once xs → Once ys → Apart xs ys → Once (xs ++ ys)
  once_join [] ys u v h = v
  once_join (x ∷ xs) ys u v h = (not_in, once_join xs ys u.1 v (λ a b m. h a b (inr m)))
    where
      not_in : ¬ (key x ∈ map key (xs ++ ys))
      not_in m = let r = map_in key (key x) (xs ++ ys) m in go r.0 r.2 (in_either r.0 xs ys r.1)
        where
          go : (a : A) → key x ≡ key a → (a ∈ xs) ⊎ (a ∈ ys) → ⊥
          go a e (inl m) = u.0 (rw e (in_map key a xs m))
          go a e (inr m) = h x a (inl refl) m e

  pub once_left : (xs ys : List A) → Once (xs ++ ys) → Once xs
  once_left [] ys u = tt
  once_left (x ∷ xs) ys u = (not_in, once_left xs ys u.1)
    where
      not_in : ¬ (key x ∈ map key xs)
      not_in m =
          let r = map_in key (key x) xs m in
          u.0 (rw r.2 (in_map key r.0 (xs ++ ys) (in_left r.0 xs ys r.1)))

  pub once_right : (xs ys : List A) → Once (xs ++ ys) → Once ys
  once_right [] ys u = u
  once_right (x ∷ xs) ys u = once_right xs ys u.1

  pub once_apart : (xs ys : List A) → Once (xs ++ ys) → Apart xs ys
  once_apart [] ys u a b h g e = h
  once_apart (x ∷ xs) ys u a b (inl h) g e = u.0 (rw (← (ap key h), e) (in_map key b (xs ++ ys) (in_right b xs ys g)))
  once_apart (x ∷ xs) ys u a b (inr h) g e = once_apart xs ys u.1 a b h g e

  -- ---- three parts: the middle is put in, or taken out

  pub once_outer : (xs ys zs : List A) → Once (xs ++ (ys ++ zs)) → Once (xs ++ zs)
  once_outer xs ys zs u =
      once_join xs zs (once_left xs (ys ++ zs) u) (once_right ys zs (once_right xs (ys ++ zs) u))
      (λ a b m l. once_apart xs (ys ++ zs) u a b m (in_right b ys zs l))

  pub once_middle : (xs ys zs : List A) → Once (xs ++ (ys ++ zs)) → Once ys
  once_middle xs ys zs u = once_left ys zs (once_right xs (ys ++ zs) u)

  pub once_insert : (xs ys zs : List A) → Once (xs ++ zs) → Once ys → Apart (xs ++ zs) ys → Once (xs ++ (ys ++ zs))
  once_insert xs ys zs u v h =
      once_join xs (ys ++ zs) (once_left xs zs u)
      (once_join ys zs v (once_right xs zs u) (λ a b m l e. h b a (in_right b xs zs l) m (sym e)))
      (λ a b m l. go a b m (in_either b ys zs l))
    where
      go : (a b : A) → a ∈ xs → (b ∈ ys) ⊎ (b ∈ zs) → key a ≢ key b
      go a b m (inl l) = h a b (in_left a xs zs m) l
      go a b m (inr l) = once_apart xs zs u a b m l

  pub outer_apart : (xs ys zs : List A) → Once (xs ++ (ys ++ zs)) → Apart (xs ++ zs) ys
  outer_apart xs ys zs u a b m l = go (in_either a xs zs m)
    where
      go : (a ∈ xs) ⊎ (a ∈ zs) → key a ≢ key b
      go (inl m) = once_apart xs (ys ++ zs) u a b m (in_left b ys zs l)
      go (inr m) = λ e. once_apart ys zs (once_right xs (ys ++ zs) u) b a l m (sym e)

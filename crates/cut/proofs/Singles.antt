-- Owned once, said of lists and not of places (`owned_single`, `single_owned`); of a graph that is so, a reached key
-- has one node (`one_node`), and nothing lies below itself (`acyclic`). Assumes nothing.
use mathlib.Core.Path.{◌≡◌, refl, sym, ap, ◌∙◌, subst}
use mathlib.Core.Logic.{◌≢◌, ◌⊎◌, inl, inr}
use Prim.Native.Nat.{ℕ}
use Rattle.reach.specs.References.{References, At, ◌∈◌, Reached, top, ref, Owned}
use Rattle.reach.proofs.Lists.{at_in, in_at, at_one}
use Rattle.cut.proofs.Lists.{Once, placed_once, once_placed}

module _ {Node : Type 0} (R : References Node) where
  open R use {root, key, refs}

  pub leads : {m n : Node} → Reached R m → n ∈ refs m → Reached R n
  leads {m} {n} r h = let a = in_at n (refs m) h in ref a.0 r a.1

  -- a reached node refers to no key twice, no two refer to one key, and none to the root's
  pub record Single : Type 0 where
    pub lists : (m : Node) → Reached R m → Once key (refs m)
    pub parent : (m m' n n' : Node) → Reached R m → Reached R m' → n ∈ refs m → n' ∈ refs m' → key n ≡ key n'
        → key m ≡ key m'
    pub none : (m n : Node) → Reached R m → n ∈ refs m → key n ≢ key root

  pub owned_single : Owned R → Single
  owned_single o =
      record {
        lists = λ m r. placed_once key (refs m) (λ i j a b h g e. (o.once m m a b i j r r h g e).1);
        parent =
            λ m m' n n' r r' h h' e. let a =
            in_at n (refs m) h in let b =
            in_at n' (refs m') h' in (o.once m m' n n' a.0 b.0 r r' a.1 b.1 e).0;
        none = λ m n r h. let a = in_at n (refs m) h in o.none m n a.0 r a.1;
      }

  -- ---- a reached key has one node

  pub one_node : Owned R → {m n : Node} → Reached R m → Reached R n → key m ≡ key n → m ≡ n
  one_node o (top e) (top e') q = e ∙ sym e'
  one_node o (top e) (ref {m = x} {n = n} i r h) q = absurd (o.none x n i r h (sym q ∙ ap key e))
  one_node o (ref {m = x} {n = n} i r h) (top e) q = absurd (o.none x n i r h (q ∙ ap key e))
  one_node o (ref {m = x} {n = n} i r h) (ref {m = y} {n = l} j r' g) q =
      let w = o.once x y n l i j r r' h g q in
      let e = one_node o r r' w.0 in
      at_one i (refs x) h (rw (w.1, e) g)

  pub single_owned : ((m n : Node) → Reached R m → Reached R n → key m ≡ key n → m ≡ n) → Single → Owned R
  single_owned one s = record { once = once'; none = λ m n i r h. s.none m n r (at_in n i (refs m) h) }
    where
      once' : (m m' n n' : Node) (i i' : ℕ) → Reached R m → Reached R m' → At i n (refs m) → At i' n' (refs m')
          → key n ≡ key n' → (key m ≡ key m') × (i ≡ i')
      once' m m' n n' i i' r r' h h' e =
          let q = s.parent m m' n n' r r' (at_in n i (refs m) h) (at_in n' i' (refs m') h') e in
          let x = one m m' r r' q in
          (q, once_placed key (refs m) (s.lists m r) i i' n n' h (subst (λ y. At i' n' (refs y)) (sym x) h') e)

  -- ---- below

  -- n is reached from m by one reference or more
  pub data Below (m : Node) : Node → Type 0 where
    next : {n : Node} → n ∈ refs m → Below m n
    on : {x n : Node} → Below m x → n ∈ refs x → Below m n

  pub below_from : {l m n : Node} → m ∈ refs l → Below m n → Below l n
  below_from h (next g) = on (next h) g
  below_from h (on b g) = on (below_from h b) g

  pub below_reached : {m n : Node} → Reached R m → Below m n → Reached R n
  below_reached r (next h) = leads r h
  below_reached r (on b h) = leads (below_reached r b) h

  -- who refers to n, of what lies at m or below it
  last_of : {m n : Node} → Below m n → (x : Node) × ((x ≡ m) ⊎ Below m x) × (n ∈ refs x)
  last_of {m} (next h) = (m, inl refl, h)
  last_of (on {x = x} b h) = (x, inr b, h)

  pub acyclic : Owned R → {n : Node} → Reached R n → Below n n → ⊥
  acyclic o {n} r b = go r b (last_of b)
    where
      reached_at : {x l : Node} → Reached R l → (x ≡ l) ⊎ Below l x → Reached R x
      reached_at r (inl e) = rw e r
      reached_at r (inr b) = below_reached r b

      go : {l : Node} → Reached R l → Below l l → (x : Node) × ((x ≡ l) ⊎ Below l x) × (l ∈ refs x) → ⊥
      go {l} (top e) b w = (owned_single o).none w.0 l (reached_at (top e) w.1) w.2 (ap key e)
      go {l} (ref {m = m} i r h) b w =
          let r' = reached_at (ref i r h) w.1 in
          let m-in = at_in l i (refs m) h in
          let e = one_node o r r' ((owned_single o).parent m w.0 l l r r' m-in w.2 refl) in
          let c = below m-in e w.1 in
          go r c (last_of c)
        where
          below : {m x : Node} → l ∈ refs m → m ≡ x → (x ≡ l) ⊎ Below l x → Below m m
          below {m} h e (inl q) = next (subst (λ y. y ∈ refs m) (sym (e ∙ q)) h)
          below h e (inr b) = below_from h (subst (Below l) (sym e) b)

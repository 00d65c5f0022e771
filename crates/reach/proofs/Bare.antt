-- The theorem `law_bare`: a node may carry context that only its tests need; what is reached and what is owned can
-- then be said of bare nodes. `to_bare` and `from_bare` go between the two reached sets. They ask of a reached node
-- only what makes it refer to what its bare node refers to (`Ok`). Assumes nothing.
use mathlib.Core.Path.{◌≡◌, refl, sym, ap, ◌∙◌, subst}
use mathlib.Core.Logic.{◌≢◌, ◌↔◌}
use mathlib.Core.List.{map}
use Prim.Native.Nat.{ℕ}
use Rattle.reach.specs.References.{References, At, Reached, top, ref, Owned}
use Rattle.reach.specs.Walk.{Graph}
use Rattle.reach.specs.Law.{AllPass, Law}
use Rattle.reach.proofs.Lists.{at_map, map_at}

-- a node that is Ok refers to what its bare node refers to
module _ {Node Bare S : Type 0} (G : Graph Node S) (B : References Bare) (bare : Node → Bare) (Ok : Node → Type 0)
    (root≡ : bare G.references.root ≡ B.root)
    (key≡ : (n : Node) → B.key (bare n) ≡ G.references.key n)
    (refs≡ : (n : Node) → Ok n → map bare (G.references.refs n) ≡ B.refs (bare n)) where
  open G.references use {root, key, refs}

  abbrev R : Node → Type 0
  R n = Reached G.references n

  module _ (fine : (n : Node) → R n → Ok n) where
    agrees : (m : Node) → R m → map bare (refs m) ≡ B.refs (bare m)
    agrees m r = refs≡ m (fine m r)

    at_bare : (m n : Node) (i : ℕ) → R m → At i n (refs m) → At i (bare n) (B.refs (bare m))
    at_bare m n i r h = subst (At i (bare n)) (agrees m r) (at_map bare i n (refs m) h)

    pub to_bare : {n : Node} → Reached G.references n → Reached B (bare n)
    to_bare (top e) = top (ap bare e ∙ root≡)
    to_bare (ref {m = m} {n = n} i r h) = ref i (to_bare r) (at_bare m n i r h)

    from_at : (m : Node) (b : Bare) (i : ℕ) → R m → At i b (B.refs (bare m))
        → (n : Node) × At i n (refs m) × (b ≡ bare n)
    from_at m b i r h = map_at bare i b (refs m) (subst (At i b) (sym (agrees m r)) h)

    pub from_bare : {b : Bare} → Reached B b → (n : Node) × Reached G.references n × (b ≡ bare n)
    from_bare (top e) = (root, top refl, e ∙ sym root≡)
    from_bare (ref {m = m} {n = b} i r h) =
        let p = from_bare r in
        let q = from_at p.0 b i p.1 (subst (λ x. At i b (B.refs x)) p.2 h) in
        (q.0, ref i p.1 q.1, q.2)

    key_of : (b : Bare) (n : Node) → b ≡ bare n → B.key b ≡ key n
    key_of b n e = ap B.key e ∙ key≡ n

    lowered : Owned G.references → Owned B
    lowered w = record { once = once'; none = none' }
      where
        once' : (m m' n n' : Bare) (i i' : ℕ) → Reached B m → Reached B m' → At i n (B.refs m)
            → At i' n' (B.refs m') → B.key n ≡ B.key n' → (B.key m ≡ B.key m') × (i ≡ i')
        once' m m' n n' i i' r r' h h' e =
            let p = from_bare r in
            let p' = from_bare r' in
            let q = from_at p.0 n i p.1 (subst (λ x. At i n (B.refs x)) p.2 h) in
            let q' = from_at p'.0 n' i' p'.1 (subst (λ x. At i' n' (B.refs x)) p'.2 h') in
            let o =
            w.once p.0 p'.0 q.0 q'.0 i i' p.1 p'.1 q.1 q'.1
            (sym (key_of n q.0 q.2) ∙ e ∙ key_of n' q'.0 q'.2) in
            (key_of m p.0 p.2 ∙ o.0 ∙ sym (key_of m' p'.0 p'.2), o.1)

        none' : (m n : Bare) (i : ℕ) → Reached B m → At i n (B.refs m) → B.key n ≢ B.key B.root
        none' m n i r h e =
            let p = from_bare r in
            let q = from_at p.0 n i p.1 (subst (λ x. At i n (B.refs x)) p.2 h) in
            w.none p.0 q.0 i p.1 q.1 (sym (key_of n q.0 q.2) ∙ e ∙ key_of B.root root (sym root≡))

    raised : Owned B → Owned G.references
    raised w = record {
      once =
          λ m m' n n' i i' r r' h h' e. let o = w.once (bare m) (bare m') (bare n) (bare n') i i' (to_bare r)
          (to_bare r') (at_bare m n i r h) (at_bare m' n' i' r' h') (key≡ n ∙ e ∙ sym (key≡ n')) in (
            sym (key≡ m)
                ∙ o.0 ∙ key≡ m',
            o.1,
          );
      none =
          λ m n i r h e. w.none (bare m) (bare n) i (to_bare r) (at_bare m n i r h)
          (key≡ n ∙ e ∙ sym (key_of B.root root (sym root≡)));
    }

  -- if passing its tests makes a node Ok
  pub law_bare : (AllPass G → (n : Node) → R n → Ok n) → Law G ↔ (AllPass G × Owned B)
  law_bare ok = (
    (λ w. (w.passes, lowered (ok w.passes) w.owned)),
    (λ p. record { passes = p.0; owned = raised (ok p.0) p.1 }),
  )

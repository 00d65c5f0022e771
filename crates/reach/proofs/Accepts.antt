-- The theorem `accepts`: the walk accepts if and only if the law holds. Assumes nothing.
use mathlib.Core.Path.{◌≡◌, refl, sym, ap, ◌∙◌, subst, subst₂}
use mathlib.Core.Logic.{◌≢◌, inl, inr, ◌↔◌}
use mathlib.Core.List.{List, [], ◌∷◌, head-eq_of_cons-eq, cons≢nil}
use Prim.Native.Nat.{ℕ, ◌+◌, ◌<◌}
use native.Mathlib.Omega.{arith}
use lib.ListN.{get_or}
use Rattle.reach.specs.References.{At, ◌∈◌, Reached, top, ref}
use Rattle.reach.specs.Walk.{Graph, Outcome, done, refused, verdict, audit, Accepted}
use Rattle.reach.specs.Law.{Law}
use Rattle.reach.proofs.Lists.{at_one}
use Rattle.reach.proofs.Runs.{Run, end, stop, enter, passes}
use Rattle.reach.proofs.Tree.{Item, at_number, number_at, tree, up, down, unfolded, told, InTree}
use Rattle.reach.proofs.Found.{Found, found_all, distinct_one, now_here}
use Rattle.reach.proofs.Kept.{Claim}
use Rattle.reach.proofs.WholeWalk.{Fit, fit_next, fit_start, whole, whole_runs, Fits, whole_fits, audit_whole}

module _ {Node S : Type 0} (G : Graph Node S) where
  open G.references use {root, key, refs}
  open tree G.references use {root as start, key as K, refs as kids}

  -- ---- what is found at the end is the law

  sound : (c : List ℕ) (s : List (Item Node)) → Found G c s [] → Law G
  sound c s i =
      record {
        passes = λ n r. i.good _ (found_all G c s i (up G.references r).1);
        owned = record { once = once'; none = none' };
      }
    where
      child : (m n : Node) (j : ℕ) → (a : List (Node × ℕ)) → InTree G (a, m) → At j n (refs m)
          → InTree G ((m, 0 + j) ∷ a, n)
      child m n j a r h = ref j r (at_number 0 (a, m) (refs m) j n h)

      once' : (m m' n n' : Node) (j j' : ℕ) → Reached G.references m → Reached G.references m' → At j n (refs m)
          → At j' n' (refs m') → key n ≡ key n' → (key m ≡ key m') × (j ≡ j')
      once' m m' n n' j j' r r' h h' e =
          let u = up G.references r in
          let u' = up G.references r' in
          let x = found_all G c s i (child m n j u.0 u.1 h) in
          let x' = found_all G c s i (child m' n' j' u'.0 u'.1 h') in
          let w = head-eq_of_cons-eq (ap (λ p. p.0) (distinct_one G s i.distinct _ _ x x' e)) in
          (ap (λ y. key y.0) w, omega (arith, ap (λ y. y.1) w))

      none' : (m n : Node) (j : ℕ) → Reached G.references m → At j n (refs m) → key n ≢ key root
      none' m n j r h e =
          let u = up G.references r in
          cons≢nil (ap (λ p. p.0) (distinct_one G s i.distinct _ start
          (found_all G c s i (child m n j u.0 u.1 h)) (now_here i.rooted) e))

  -- ---- under the law no test fails

  -- no two items of the tree have one key
  law_one : Law G → {p q : Item Node} → InTree G p → InTree G q → K p ≡ K q → p ≡ q
  law_one w (top e) (top e') k = e ∙ sym e'
  law_one w (top e) (ref {m = m} {n = q} j d h) k =
      absurd (w.owned.none m.1 q.1 j (down G.references d) (number_at 0 m (refs m.1) j q h).1
      (sym k ∙ ap K e))
  law_one w (ref {m = m} {n = p} j d h) (top e) k =
      absurd (w.owned.none m.1 p.1 j (down G.references d) (number_at 0 m (refs m.1) j p h).1
      (k ∙ ap K e))
  law_one w (ref {m = m} {n = p} j d h) (ref {m = m'} {n = q} j' d' h') k = go (law_one w d d')
    where
      o : (K m ≡ K m') × (j ≡ j')
      o =
          w.owned.once m.1 m'.1 p.1 q.1 j j' (down G.references d) (down G.references d')
          (number_at 0 m (refs m.1) j p h).1 (number_at 0 m' (refs m'.1) j' q h').1 k

      go : (K m ≡ K m' → m ≡ m') → p ≡ q
      go f = at_one j' (kids m') (subst₂ (λ x y. At y p (kids x)) (f o.0) o.1 h) h'

  module _ (N : ℕ) (room : (n : Node) → G.before n ≡ 0 → key n < N) where
    next_passes : Law G → (c : List ℕ) (s : List (Item Node)) (p : Item Node) (ps : List (Item Node))
        → Fit G N c s (p ∷ ps) → verdict (unfolded G) c p ≡ 0
    next_passes w c s p ps i =
        passes (unfolded G) c p g.0
        (unclaimed (i.kept.bytes (K p) (subst (λ x. K p < x) (sym i.size) (room p.1 g.0)))) g.1
      where
        r : InTree G p
        r = i.kept.todo p (inl refl)

        g : (G.before p.1 ≡ 0) × (G.after p.1 ≡ 0)
        g = w.passes p.1 (down G.references r)

        unclaimed : Claim G c s (K p) → get_or c (K p) 1 ≡ 0
        unclaimed (inl z) = z
        unclaimed (inr o) =
            let q = o.1 in
            absurd (i.kept.apart p (inl refl)
            (subst (λ x. x ∈ s) (law_one w (i.kept.seen q.0 q.1) r q.2) q.1))

    complete : Law G → {c : List ℕ} {s xs : List (Item Node)} {r : Outcome (List (Item Node))}
        → Run (unfolded G) c s xs r → Fit G N c s xs → Accepted r
    complete w end i = tt
    complete w (stop {c = c} {s = s} {n = p} {ns = ps} v e) i = absurd (omega (arith, e, next_passes w c s p ps i))
    complete w (enter {c = c} {s = s} {n = p} {ns = ps} e d) i = complete w d (fit_next G N c s p ps e i)

    -- ---- the theorem

    told_accepted : (s₀ : S) (r : Outcome (List (Item Node))) → Accepted r ↔ Accepted (told G s₀ r)
    told_accepted s₀ (done c t) = ((λ h. h), (λ h. h))
    told_accepted s₀ (refused v k) = ((λ h. h), (λ h. h))

    fits_law : (r : Outcome (List (Item Node))) → Fits G N r → Accepted r → Law G
    fits_law (done c t) i h = sound c t i.found
    fits_law (refused v k) i h = absurd h

    -- the walk accepts if and only if the law holds
    pub accepts : (s₀ : S) → Accepted (audit G N s₀) ↔ Law G
    accepts s₀ =
        let r = whole G N in (
          (λ h. fits_law r (whole_fits G N) ((told_accepted s₀ r).1 (subst Accepted (audit_whole G N s₀) h))),
          (λ w. subst Accepted (sym (audit_whole G N s₀))
              ((told_accepted s₀ r).0 (complete w (whole_runs G N) (fit_start G N)))),
        )

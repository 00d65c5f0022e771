-- The theorem `why`: a refusal has a cause. The node fails that test, or its key is referred to twice. Assumes nothing.
use mathlib.Core.Path.{◌≡◌, refl, sym, ap, ◌∙◌, subst, subst₂}
use mathlib.Core.Logic.{◌≢◌, ◌⊎◌, inl, inr}
use mathlib.Core.List.{List, ◌∷◌}
use Prim.Native.Nat.{ℕ, zero, suc, ◌<◌}
use native.Mathlib.Omega.{arith}
use lib.ListN.{get_or}
use Rattle.reach.specs.References.{At, ◌∈◌, top, ref}
use Rattle.answers.specs.Tests.{first}
use Rattle.answers.proofs.Tests.{first_refuses}
use Rattle.reach.specs.Walk.{Graph, Outcome, done, refused, claimed, verdict, audit}
use Rattle.reach.specs.Law.{Referral, Twice, Why}
use Rattle.reach.proofs.Lists.{at_one}
use Rattle.reach.proofs.Runs.{Run, end, stop, enter}
use Rattle.reach.proofs.Tree.{Item, number_at, tree, down, unfolded, told, InTree}
use Rattle.reach.proofs.Found.{distinct_one}
use Rattle.reach.proofs.Kept.{Claim}
use Rattle.reach.proofs.WholeWalk.{Fit, fit_next, fit_start, whole, whole_runs, audit_whole}

module _ {Node S : Type 0} (G : Graph Node S) where
  open G.references use {key, refs}
  open tree G.references use {key as K, refs as kids}

  -- ---- where a key is referred to

  abbrev referral : (p m : Item Node) (j : ℕ) (k : ℕ) → InTree G m → At j p (kids m) → K p ≡ k
      → Referral G.references k
  referral p m j k r h e =
      record {
        from = m.1;
        to = p.1;
        nth = j;
        reached = down G.references r;
        stands = (number_at 0 m (refs m.1) j p h).1;
        keyed = e;
      }

  -- two items with one key, the one done and the other to do
  twice : (N : ℕ) (c : List ℕ) (s : List (Item Node)) (p q : Item Node) (ps : List (Item Node)) → Fit G N c s (p ∷ ps)
      → InTree G p → InTree G q → q ∈ s → K q ≡ K p → Twice G.references (K p)
  twice N c s p q ps i (top e) (top e') m k = absurd (i.kept.apart p (inl refl) (subst (λ x. x ∈ s) (e' ∙ sym e) m))
  twice N c s p q ps i (top e) (ref {m = m'} {n = q'} j' d' h') m k = (referral q m' j' (K p) d' h' k, inl (ap K e))
  twice N c s p q ps i (ref {m = m'} {n = p'} j d h) (top e) m k =
      (referral p m' j (K p) d h refl, inl (sym k ∙ ap K e))
  twice N c s p q ps i (ref {m = m₁} {n = p'} j₁ d₁ h₁) (ref {m = m₂} {n = q'} j₂ d₂ h₂) m k =
      (referral p m₁ j₁ (K p) d₁ h₁ refl, inr (referral q m₂ j₂ (K p) d₂ h₂ k, two))
    where
      done₁ : m₁ ∈ s
      done₁ = i.kept.parent p m₁.1 _ m₁.0 (inl (inl refl)) (number_at 0 m₁ (refs m₁.1) j₁ p h₁).0

      done₂ : m₂ ∈ s
      done₂ = i.kept.parent q m₂.1 _ m₂.0 (inr m) (number_at 0 m₂ (refs m₂.1) j₂ q h₂).0

      two : (K m₁ ≡ K m₂) × (j₁ ≡ j₂) → ⊥
      two o =
          let e = distinct_one G s i.found.distinct m₁ m₂ done₁ done₂ o.0 in
          let same : p ≡ q = at_one j₂ (kids m₂) (subst₂ (λ x y. At y p (kids x)) e o.1 h₁) h₂ in
          i.kept.apart p (inl refl) (subst (λ x. x ∈ s) (sym same) m)

  -- ---- the cause of a refusal

  abbrev Whys : {T : Type 0} → Outcome T → Type 0
  Whys (done c s) = Unit {0}
  Whys (refused v k) = Why G v k

  told_whys : (s₀ : S) (r : Outcome (List (Item Node))) → Whys r → Whys (told G s₀ r)
  told_whys s₀ (done c t) h = h
  told_whys s₀ (refused v k) h = h

  module _ (N : ℕ) (room : (n : Node) → G.before n ≡ 0 → key n < N) where
    cause : (c : List ℕ) (s : List (Item Node)) (p : Item Node) (ps : List (Item Node)) (v : ℕ) → Fit G N c s (p ∷ ps)
        → verdict (unfolded G) c p ≡ suc v → Why G (suc v) (K p)
    unfolding verdict first
    cause c s p ps v i e =
        record {
          node = p.1;
          reached = down G.references r;
          keyed = refl;
          cause = go (G.before p.1) refl (get_or c (K p) 1) refl e;
        }
      where
        r : InTree G p
        r = i.kept.todo p (inl refl)

        claimed_by : Claim G c s (K p) → get_or c (K p) 1 ≢ 0 → Twice G.references (K p)
        claimed_by (inl z) h = absurd (h z)
        claimed_by (inr o) h = let q = o.1 in twice N c s p q.0 ps i r (i.kept.seen q.0 q.1) q.1 q.2

        go : (b : ℕ) → G.before p.1 ≡ b → (m : ℕ) → get_or c (K p) 1 ≡ m
            → first b (first (claimed G.taken m) (G.after p.1)) ≡ suc v
            → (G.before p.1 ≡ suc v) ⊎ ((suc v ≡ G.taken) × Twice G.references (K p))
            ⊎ (G.after p.1 ≡ suc v)
        go (suc b) hb m hm e = inl (hb ∙ e)
        go zero hb zero hm e = inr (inr e)
        go zero hb (suc m) hm e =
            inr (inl (
              sym e ∙ first_refuses G.taken _ G.taken_refuses,
              claimed_by (i.kept.bytes (K p) (subst (λ x. K p < x) (sym i.size) (room p.1 hb)))
                  (λ z. absurd (omega (arith, hm, z))),
            ))

    causes : {c : List ℕ} {s xs : List (Item Node)} {r : Outcome (List (Item Node))} → Run (unfolded G) c s xs r
        → Fit G N c s xs → Whys r
    causes end i = tt
    causes (stop {c = c} {s = s} {n = p} {ns = ps} v e) i = cause c s p ps v i e
    causes (enter {c = c} {s = s} {n = p} {ns = ps} e d) i = causes d (fit_next G N c s p ps e i)

    pub why : (s₀ : S) (v k : ℕ) → audit G N s₀ ≡ refused v k → Why G v k
    why s₀ v k e =
        subst Whys (sym (audit_whole G N s₀) ∙ e) (told_whys s₀ (whole G N) (causes (whole_runs G N) (fit_start G N)))

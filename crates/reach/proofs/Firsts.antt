-- `refused_first`, `accepted_visits`: the walk goes as `Visits` says, and stops exactly at the first node that fails.
-- Assumes nothing.
use mathlib.Core.Path.{◌≡◌, refl, sym, ap, ◌∙◌, subst}
use mathlib.Core.Logic.{◌≢◌, ◌⊎◌, inl, inr, ◌↔◌}
use mathlib.Core.List.{List, [], ◌∷◌, ◌++◌, map}
use Prim.Native.Nat.{ℕ, zero, suc, ◌<◌}
use native.Mathlib.Decide.{ℕ_discrete}
use native.Mathlib.Omega.{arith}
use lib.ListN.{get_or, set, replicate, get_or-replicate}
use Rattle.answers.specs.Tests.{first}
use Rattle.answers.proofs.Tests.{first_refuses}
use Rattle.reach.specs.References.{◌∈◌}
use Rattle.reach.specs.Walk.{Graph, Outcome, done, refused, Accepted, claimed, verdict, run, audit}
use Rattle.reach.specs.Visits.{Judged, early, twice, late, Visits, start, step, Stops}
use Rattle.reach.proofs.Claims.{mark_same, mark_other}
use Rattle.reach.proofs.Runs.{passed, Run, end, stop, enter, run_runs, run_end, run_stop, run_enter}

module _ {Node S : Type 0} (G : Graph Node S) (N : ℕ) (room : (n : Node) → G.before n ≡ 0 → G.references.key n < N)
  where
    open G.references use {key, refs}

    -- the key k is free, and no node seen has it; or it is claimed, and one has it
    abbrev Byte : List ℕ → List Node → ℕ → Type 0
    Byte c seen k = ((get_or c k 1 ≡ 0) × (¬ (k ∈ map key seen))) ⊎ ((get_or c k 1 ≡ 1) × (k ∈ map key seen))

    -- the claims c are those of the nodes seen
    abbrev Claims : List ℕ → List Node → Type 0
    Claims c seen = (k : ℕ) → k < N → Byte c seen k

    claims_start : Claims (replicate N 0) []
    claims_start k h = inl (get_or-replicate N k 0 1 h, λ m. m)

    claims_next : (c : List ℕ) (seen : List Node) (n : Node) → verdict G c n ≡ 0 → Claims c seen
        → Claims (set c (key n) 1) (n ∷ seen)
    claims_next c seen n e i k h = go (ℕ_discrete k (key n))
      where
        old : k ≢ key n → Byte c seen k → Byte (set c (key n) 1) (n ∷ seen) k
        old q (inl z) = inl (mark_other c (key n) k q ∙ z.0, new)
          where
            new : ¬ (k ∈ (key n ∷ map key seen))
            new (inl m) = q m
            new (inr m) = z.1 m
        old q (inr o) = inr (mark_other c (key n) k q ∙ o.0, inr o.1)

        go : Dec (k ≡ key n) → Byte (set c (key n) 1) (n ∷ seen) k
        go (yes q) = inr (ap (λ x. get_or (set c (key n) 1) x 1) q ∙ mark_same c (key n) (passed G c n e).1, inl q)
        go (no q) = old q (i k h)

    -- ---- a node's verdict is what it is judged

    module _ (c : List ℕ) (seen : List Node) (n : Node) (i : Claims c seen) where
      verdict_judged : Judged G seen n (verdict G c n)
      unfolding verdict first
      verdict_judged = go (G.before n) refl
        where
          byte : G.before n ≡ 0 → Byte c seen (key n)
              → Judged G seen n (first (claimed G.taken (get_or c (key n) 1)) (G.after n))
          byte b (inl z) = rw z.0 (late b z.1 refl)
          byte b (inr o) = rw o.0 (twice b o.1 (sym (first_refuses G.taken _ G.taken_refuses)))

          go : (b : ℕ) → G.before n ≡ b
              → Judged G seen n (first (G.before n) (first (claimed G.taken (get_or c (key n) 1)) (G.after n)))
          go zero b = rw b (byte b (i (key n) (room n b)))
          go (suc v) b = rw b (early b (λ z. absurd (omega arith)))

      judged_verdict : (v : ℕ) → Judged G seen n v → verdict G c n ≡ v
      unfolding verdict first
      judged_verdict v (early b h) = rw b (first_refuses v _ (omega arith))
      judged_verdict v (twice b m t) = go (i (key n) (room n b))
        where
          go : Byte c seen (key n) → verdict G c n ≡ v
          go (inl z) = absurd (z.1 m)
          go (inr o) = rw (b, o.0) (first_refuses G.taken _ G.taken_refuses ∙ t)
      judged_verdict v (late b m a) = go (i (key n) (room n b))
        where
          go : Byte c seen (key n) → verdict G c n ≡ v
          go (inl z) = rw (b, z.0) a
          go (inr o) = absurd (m o.1)

    -- ---- an outcome tells where the walk came to

    abbrev Tells : Outcome S → Type 0
    Tells (done c s) = (seen : List Node) × Visits G seen []
    Tells (refused v k) = Stops G v k

    tells : {c : List ℕ} {s : S} {todo : List Node} {r : Outcome S} → Run G c s todo r → (seen : List Node)
        → Claims c seen → Visits G seen todo → Tells r
    tells end seen i w = (seen, w)
    tells (stop {c = c} {n = n} {ns = ns} v e) seen i w =
        record {
          seen = seen;
          node = n;
          todo = ns;
          visits = w;
          fails = subst (Judged G seen n) e (verdict_judged c seen n i);
          refuses = λ z. absurd (omega arith);
          keyed = refl;
        }
    tells (enter {c = c} {n = n} e d) seen i w =
        tells d (n ∷ seen) (claims_next c seen n e i) (step w (subst (Judged G seen n) e (verdict_judged c seen n i)))

    audit_tells : (s₀ : S) → Tells (audit G N s₀)
    unfolding audit
    audit_tells s₀ = tells (run_runs G _ _ _) [] claims_start start

    -- ---- and where `Visits` comes to, the walk does

    record Comes (s₀ : S) (seen todo : List Node) : Type 0 where
      c : List ℕ
      s : S
      claims : Claims c seen
      same : audit G N s₀ ≡ run G c s todo

    comes : (s₀ : S) {seen todo : List Node} → Visits G seen todo → Comes s₀ seen todo
    unfolding audit
    comes s₀ start = record { c = replicate N 0; s = s₀; claims = claims_start; same = refl }
    comes s₀ (step {seen = seen} {todo = todo} {n = n} w p) = go (comes s₀ w)
      where
        go : Comes s₀ seen (n ∷ todo) → Comes s₀ (n ∷ seen) (refs n ++ todo)
        go x =
            let e = judged_verdict x.c seen n x.claims 0 p in
            record {
              c = set x.c (key n) 1;
              s = G.note n x.s;
              claims = claims_next x.c seen n e x.claims;
              same = x.same ∙ run_enter G x.c x.s n todo e;
            }

    stopped : (s₀ : S) (v k : ℕ) → Stops G v k → audit G N s₀ ≡ refused v k
    stopped s₀ zero k t = absurd (t.refuses refl)
    stopped s₀ (suc v) k t =
        let x = comes s₀ t.visits in
        x.same ∙ run_stop G x.c x.s t.node t.todo v
        (judged_verdict x.c t.seen t.node x.claims (suc v) t.fails) ∙ ap (refused (suc v)) t.keyed

    -- ---- the theorems

    pub refused_first : (s₀ : S) (v k : ℕ) → (audit G N s₀ ≡ refused v k) ↔ Stops G v k
    refused_first s₀ v k = ((λ e. subst Tells e (audit_tells s₀)), stopped s₀ v k)

    pub accepted_visits : (s₀ : S) → Accepted (audit G N s₀) ↔ ((seen : List Node) × Visits G seen [])
    accepted_visits s₀ = (
      there (audit G N s₀) (audit_tells s₀),
      λ w. let x = comes s₀ w.1 in subst Accepted
          (sym (x.same ∙ run_end G x.c x.s)) tt,
    )
      where
        there : (r : Outcome S) → Tells r → Accepted r → (seen : List Node) × Visits G seen []
        there (done c s) w h = w
        there (refused v k) w h = absurd h

-- The walk with no fuel: the equations that code is proved by (`run_end`, `run_stop`, `run_enter`), and
-- the relation `Run` that a proof goes by induction on. Assumes nothing.
use mathlib.Core.Path.{◌≡◌, refl, ◌∙◌}
use mathlib.Core.Logic.{◌≢◌}
use mathlib.Core.List.{List, [], ◌∷◌, ◌++◌}
use Prim.Native.Nat.{ℕ, zero, suc, ◌<◌}
use native.Mathlib.Nat.{le_refl, not-suc-le-zero}
use native.Mathlib.Omega.{arith}
use lib.ListN.{get_or, set}
use Rattle.answers.specs.Tests.{first}
use Rattle.answers.proofs.Tests.{first_zero}
use Rattle.reach.specs.Walk.{Graph, Outcome, done, refused, claimed, free, verdict, walk, run}
use Rattle.reach.proofs.Claims.{free_set}

-- ---- tests

pub claimed_zero : (v m : ℕ) → 0 < v → claimed v m ≡ 0 → m ≡ 0
claimed_zero v zero h e = refl
claimed_zero v (suc m) h e = absurd (omega arith)

pub claimed_taken : (v m : ℕ) → m ≢ 0 → claimed v m ≡ v
claimed_taken v zero h = absurd (h refl)
claimed_taken v (suc m) h = refl

module _ {Node S : Type 0} (G : Graph Node S) where
  open G.references use {key, refs}

  -- ---- a verdict that passes

  pub passed : (c : List ℕ) (n : Node) → verdict G c n ≡ 0
      → (G.before n ≡ 0) × (get_or c (key n) 1 ≡ 0) × (G.after n ≡ 0)
  unfolding verdict
  passed c n e =
      let h = first_zero (G.before n) _ e in
      let h' = first_zero (claimed G.taken (get_or c (key n) 1)) (G.after n) h.1 in
      (h.0, claimed_zero G.taken _ G.taken_refuses h'.0, h'.1)

  pub passes : (c : List ℕ) (n : Node) → G.before n ≡ 0 → get_or c (key n) 1 ≡ 0 → G.after n ≡ 0 → verdict G c n ≡ 0
  unfolding verdict first
  passes c n b u a = rw (b, u) a

  -- ---- the walk as a relation

  pub data Run : List ℕ → S → List Node → Outcome S → Type 0 where
    end : {c : List ℕ} {s : S} → Run c s [] (done c s)
    stop : {c : List ℕ} {s : S} {n : Node} {ns : List Node} (v : ℕ) → verdict G c n ≡ suc v
        → Run c s (n ∷ ns) (refused (suc v) (key n))
    enter : {c : List ℕ} {s : S} {n : Node} {ns : List Node} {r : Outcome S} → verdict G c n ≡ 0
        → Run (set c (key n) 1) (G.note n s) (refs n ++ ns) r → Run c s (n ∷ ns) r

  walk_stop : (f : ℕ) (c : List ℕ) (s : S) (n : Node) (ns : List Node) (v : ℕ) → verdict G c n ≡ suc v
      → walk G (suc f) c s (n ∷ ns) ≡ refused (suc v) (key n)
  unfolding walk
  walk_stop f c s n ns v e = rw (e, walk)

  walk_enter : (f : ℕ) (c : List ℕ) (s : S) (n : Node) (ns : List Node) → verdict G c n ≡ 0
      → walk G (suc f) c s (n ∷ ns) ≡ walk G f (set c (key n) 1) (G.note n s) (refs n ++ ns)
  unfolding walk
  walk_enter f c s n ns e = rw (e, walk)

  less : (f : ℕ) (c : List ℕ) (n : Node) → verdict G c n ≡ 0 → free c < suc f → free (set c (key n) 1) < f
  less f c n e h = omega (arith, free_set c (key n) (passed c n e).1)

  pub walk_runs : (f : ℕ) (c : List ℕ) (s : S) (ns : List Node) → free c < f → Run c s ns (walk G f c s ns)
  unfolding walk
  walk_runs zero c s ns h = absurd (not-suc-le-zero h)
  walk_runs (suc f) c s [] h = end
  walk_runs (suc f) c s (n ∷ ns) h =
      go (verdict G c n) refl (walk_runs f (set c (key n) 1) (G.note n s) (refs n ++ ns))
    where
      go : (v : ℕ) → verdict G c n ≡ v
          → (free (set c (key n) 1) < f → Run (set c (key n) 1) (G.note n s) (refs n ++ ns)
          (walk G f (set c (key n) 1) (G.note n s) (refs n ++ ns)))
          → Run c s (n ∷ ns) (walk G (suc f) c s (n ∷ ns))
      go zero e below = rw (walk_enter f c s n ns e) (enter e (below (less f c n e h)))
      go (suc v) e below = rw (walk_stop f c s n ns v e) (stop v e)

  pub run_runs : (c : List ℕ) (s : S) (ns : List Node) → Run c s ns (run G c s ns)
  unfolding run
  run_runs c s ns = walk_runs (suc (free c)) c s ns (le_refl _)

  -- any fuel above the number of bytes that are 0 gives the one outcome
  pub runs_walk : {c : List ℕ} {s : S} {ns : List Node} {r : Outcome S} → Run c s ns r → (f : ℕ) → free c < f
      → walk G f c s ns ≡ r
  unfolding walk
  runs_walk end zero h = absurd (not-suc-le-zero h)
  runs_walk end (suc f) h = refl
  runs_walk (stop v e) zero h = absurd (not-suc-le-zero h)
  runs_walk (stop {c = c} {s = s} {n = n} {ns = ns} v e) (suc f) h = walk_stop f c s n ns v e
  runs_walk (enter e d) zero h = absurd (not-suc-le-zero h)
  runs_walk (enter {c = c} {s = s} {n = n} {ns = ns} e d) (suc f) h =
      walk_enter f c s n ns e ∙ runs_walk d f (less f c n e h)

  pub runs_run : {c : List ℕ} {s : S} {ns : List Node} {r : Outcome S} → Run c s ns r → run G c s ns ≡ r
  unfolding run
  runs_run {c} d = runs_walk d (suc (free c)) (le_refl _)

  -- ---- the equations

  pub run_end : (c : List ℕ) (s : S) → run G c s [] ≡ done c s
  run_end c s = runs_run end

  pub run_stop : (c : List ℕ) (s : S) (n : Node) (ns : List Node) (v : ℕ) → verdict G c n ≡ suc v
      → run G c s (n ∷ ns) ≡ refused (suc v) (key n)
  run_stop c s n ns v e = runs_run (stop v e)

  pub run_enter : (c : List ℕ) (s : S) (n : Node) (ns : List Node) → verdict G c n ≡ 0
      → run G c s (n ∷ ns) ≡ run G (set c (key n) 1) (G.note n s) (refs n ++ ns)
  run_enter c s n ns e = runs_run (enter e (run_runs _ _ _))

  -- ---- what holds at the start, and at every step, holds at the end

  abbrev pub Ends : (List ℕ → S → List Node → Type 0) → Outcome S → Type 0
  Ends I (done c s) = I c s []
  Ends I (refused v k) = Unit {0}

  pub invariant : (I : List ℕ → S → List Node → Type 0)
      → ((c : List ℕ) (s : S) (n : Node) (ns : List Node) → verdict G c n ≡ 0 → I c s (n ∷ ns)
      → I (set c (key n) 1) (G.note n s) (refs n ++ ns))
      → {c : List ℕ} {s : S} {ns : List Node} {r : Outcome S} → Run c s ns r → I c s ns → Ends I r
  invariant I next end i = i
  invariant I next (stop v e) i = tt
  invariant I next (enter {c = c} {s = s} {n = n} {ns = ns} e d) i = invariant I next d (next c s n ns e i)

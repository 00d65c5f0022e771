-- The walk never looks at what a node that fails refers to: over the graph in which such nodes refer to nothing it
-- has the same outcome (`pruned_same`). What is reached there is reached by way of nodes that pass. Assumes nothing.
use Prim.Native.Nat.{ℕ}
use mathlib.Core.Path.{◌≡◌, refl, sym, subst, ◌∙◌}
use mathlib.Core.Bool.{Bool, true, false}
use mathlib.Core.List.{List, [], ◌∷◌, ◌++◌}
use lib.Dec.{eqb}
use lib.ListN.{replicate, set}
use borrow.Author.Tests.{eq-eqb, eqb-true}
use Rattle.answers.specs.Tests.{pick, first}
use Rattle.answers.proofs.Tests.{first_zero}
use Rattle.reach.specs.References.{At}
use Rattle.reach.specs.Walk.{Graph, Outcome, verdict, audit}
use Rattle.reach.specs.Law.{pruned}
use Rattle.reach.proofs.Runs.{Run, end, stop, enter, run_runs, runs_run, passed}

module _ {Node S : Type 0} (G : Graph Node S) where
  open G.references use {root, key, refs}

  -- a node that passes refers to what it refers to
  pub pruned_refs : (n : Node) → G.before n ≡ 0 → G.after n ≡ 0 → (pruned G).references.refs n ≡ refs n
  unfolding pick first
  pruned_refs n b a = rw (eq-eqb (first (G.before n) (G.after n)) 0 (both b a)) refl
    where
      both : G.before n ≡ 0 → G.after n ≡ 0 → first (G.before n) (G.after n) ≡ 0
      both b a = rw b a

  -- a reference there is one here, of a node that passes
  pub pruned_at : (i : ℕ) (m n : Node) → At i n ((pruned G).references.refs m)
      → (G.before m ≡ 0) × (G.after m ≡ 0) × At i n (refs m)
  unfolding pick
  pruned_at i m n h = go (eqb (first (G.before m) (G.after m)) 0) refl h
    where
      go : (t : Bool) → eqb (first (G.before m) (G.after m)) 0 ≡ t → At i n (pick t (refs m) [])
          → (G.before m ≡ 0) × (G.after m ≡ 0) × At i n (refs m)
      go true e h = let f = first_zero _ _ (eqb-true _ _ e) in (f.0, f.1, h)
      go false e h = absurd h

  same_verdict : (c : List ℕ) (n : Node) → verdict (pruned G) c n ≡ verdict G c n
  unfolding verdict
  same_verdict c n = refl

  runs_pruned : {c : List ℕ} {s : S} {ns : List Node} {r : Outcome S} → Run G c s ns r → Run (pruned G) c s ns r
  runs_pruned end = end
  runs_pruned (stop {c = c} {n = n} v e) = stop v (same_verdict c n ∙ e)
  runs_pruned (enter {c = c} {s = s} {n = n} {ns = ns} {r = r} e d) =
      let p = passed G c n e in
      let k = pruned_refs n p.0 p.2 in
      enter {r = r} (same_verdict c n ∙ e)
      (subst (λ l. Run (pruned G) (set c (key n) 1) (G.note n s) (l ++ ns) r) (sym k) (runs_pruned d))

  pub pruned_same : (N : ℕ) (s : S) → audit (pruned G) N s ≡ audit G N s
  unfolding audit
  pruned_same N s = runs_run (pruned G) (runs_pruned (run_runs G (replicate N 0) s (root ∷ [])))

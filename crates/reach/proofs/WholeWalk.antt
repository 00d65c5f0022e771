-- The whole walk of the tree: all that holds while it goes on (`Fit`) holds at its end (`whole_fits`), and its
-- outcome is the audit's (`audit_whole`). Assumes nothing.
use mathlib.Core.Path.{◌≡◌, refl, sym, ap, ◌∙◌, subst}
use mathlib.Core.Logic.{◌⊎◌, inl, inr}
use mathlib.Core.List.{List, [], ◌∷◌, ◌++◌, nil≢cons}
use Prim.Native.Nat.{ℕ, ◌+◌, ◌<◌}
use native.Mathlib.Omega.{arith}
use lib.ListN.{length, set, replicate, length-set, length-replicate, get_or-replicate}
use Rattle.reach.specs.References.{◌∈◌, top}
use Rattle.reach.specs.Walk.{Graph, Outcome, verdict, run, audit, free}
use Rattle.reach.proofs.Claims.{free_set, free_all}
use Rattle.reach.proofs.Runs.{Run, run_runs, runs_run, passed, Ends, invariant}
use Rattle.reach.proofs.Tree.{Item, tree, unfolded, told, same_run, InTree}
use Rattle.reach.proofs.Found.{Found, found_next}
use Rattle.reach.proofs.Kept.{Kept, kept_next}

module _ {Node S : Type 0} (G : Graph Node S) where
  open tree G.references use {root as start, key as K, refs as kids}

  -- of N claim bytes
  pub record Fit (N : ℕ) (c : List ℕ) (s : List (Item Node)) (xs : List (Item Node)) : Type 0 where
    pub size : length c ≡ N
    pub total : free c + length s ≡ N
    pub found : Found G c s xs
    pub kept : Kept G c s xs

  pub fit_next : (N : ℕ) (c : List ℕ) (s : List (Item Node)) (p : Item Node) (ps : List (Item Node))
      → verdict (unfolded G) c p ≡ 0 → Fit N c s (p ∷ ps) → Fit N (set c (K p) 1) (p ∷ s) (kids p ++ ps)
  fit_next N c s p ps e i =
      record {
        size = length-set c (K p) 1 ∙ i.size;
        total = omega (arith, i.total, free_set c (K p) (passed (unfolded G) c p e).1);
        found = found_next G c s p ps e i.found;
        kept = kept_next G c s p ps e i.kept;
      }

  pub fit_start : (N : ℕ) → Fit N (replicate N 0) [] (start ∷ [])
  fit_start N =
      record {
        size = length-replicate N 0;
        total = omega (arith, free_all N);
        found =
            record {
              rooted = inl (inl refl);
              closed = λ p q h. absurd h;
              distinct = tt;
              good = λ p h. absurd h;
              marked = λ p h. absurd h;
            };
        kept =
            record {
              todo = todo';
              seen = λ p h. absurd h;
              bytes = λ k h. inl (get_or-replicate N k 0 1 (subst (λ x. k < x) (length-replicate N 0) h));
              uniq = ((λ h. h), tt);
              apart = λ p h h'. h';
              parent = parent';
            };
      }
    where
      todo' : (p : Item Node) → p ∈ (start ∷ []) → InTree G p
      todo' p (inl h) = top h
      todo' p (inr h) = absurd h

      parent' : (p : Item Node) (m : Node) (j : ℕ) (a : List (Node × ℕ)) → (p ∈ (start ∷ [])) ⊎ (p ∈ [])
          → p.0 ≡ (m, j) ∷ a → ⊥
      parent' p m j a (inl (inl h)) e = nil≢cons (ap (λ q. q.0) (sym h) ∙ e)
      parent' p m j a (inl (inr h)) e = h
      parent' p m j a (inr h) e = h

  module _ (N : ℕ) where
    pub whole : Outcome (List (Item Node))
    whole = run (unfolded G) (replicate N 0) [] (start ∷ [])

    pub whole_runs : Run (unfolded G) (replicate N 0) [] (start ∷ []) whole
    unfolding whole
    whole_runs = run_runs (unfolded G) _ _ _

    abbrev pub Fits : Outcome (List (Item Node)) → Type 0
    Fits r = Ends (unfolded G) (λ c s xs. Fit N c s xs) r

    pub whole_fits : Fits whole
    whole_fits = invariant (unfolded G) (λ c s xs. Fit N c s xs) (fit_next N) whole_runs (fit_start N)

    pub audit_whole : (s₀ : S) → audit G N s₀ ≡ told G s₀ whole
    unfolding audit
    audit_whole s₀ = runs_run G (same_run G s₀ whole_runs)

-- Stretches of the walk: one after the other, and a block that is met and then what it leads to. Assumes nothing.
use Rattle.std.specs.Prelude.{Result, Ok, Err, IsErrAnd}
use Rattle.std.proofs.lemmas.Result.{err_from_is_err_and}
use Prim.Native.Nat.{ℕ, zero, suc, ◌+◌, ◌≤◌, ◌<◌}
use mathlib.Core.Path.{◌≡◌, refl, sym, ap, ◌∙◌}
use mathlib.Core.Bool.{Bool, true, false}
use mathlib.Core.List.{List, [], ◌∷◌, ◌++◌, append_assoc}
use native.Mathlib.Omega.{arith}
use native.Mathlib.Nat.{le_refl}
use lib.ListN.{length}
use Rattle.answers.specs.declared.Refusal.{Refusal}
use Rattle.answers.specs.Refusals.{refusal}
use Rattle.reach.specs.Walk.{Outcome, refused, verdict, run, free}
use Rattle.reach.proofs.Claims.{free_set}
use Rattle.reach.proofs.Runs.{passed, run_stop, run_enter}
use Rattle.volume.specs.declared.disk.Disk.{Disk}
use Rattle.volume.specs.Disks.{first_key, most_blocks}
use Rattle.volume.specs.Blocks.{directory}
use Rattle.answers.proofs.Clashes.{impossible}
use Rattle.walk.proofs.Passes.{key_passed}
use Rattle.walk.specs.declared.Counts.{Counts}
use Rattle.walk.specs.Nodes.{Node, root, bitmap, entry, list, datum, key_of, leads_to, noted, with_entry, graph}
use Rattle.walk.specs.Nodes.{fault_of}
use Rattle.audit.specs.Walks.{Met, verdict_at, total, goes_on, Walks, Ready}

-- ---- answers

pub not_both : {A X Y : Type 0} (x : X) (y : Y) → Err x ≡ Ok y → A
not_both x y e = impossible cc

same_counts : (a c : Counts) → ◌≡◌ {A = Result Counts Refusal} (Ok a) (Ok c) → a ≡ c
same_counts a c e = cc

-- what a `?` hands on
pub handed : {X E : Type 0} (q : Result X E) (x : E) → IsErrAnd q (λ e. e ≡ x) → q ≡ Err x
handed q x h = let p = err_from_is_err_and q h in rw (p.1, p.2)

verdict_passed : (v k : ℕ) {u : Unit {0}} → verdict_at v k ≡ Ok u → v ≡ 0
verdict_passed zero k e = refl
verdict_passed (suc v) k e = impossible cc

refused_as : (x : Refusal) (v k : ℕ) → verdict_at (suc v) k ≡ Err x
    → ◌≡◌ {A = Outcome Counts} (refused (suc v) k) (refused x.number x.place)
refused_as x v k e = let p : refusal (suc v) k ≡ x = cc in ap (λ (y : Refusal). refused y.number y.place) p

-- ---- a block more is counted as at most one more

entry_total : (b : Bool) (c : Counts) → total (with_entry b c) ≤ total c + 1
entry_total true c = omega arith
entry_total false c = omega arith

noted_total : (s : List ℕ) (n : Node) (c : Counts) → total (noted s n c) ≤ total c + 1
unfolding noted
noted_total s root c = omega arith
noted_total s (bitmap k) c = omega arith
noted_total s (entry k t i p) c = entry_total (directory s k) c
noted_total s (list k h m b) c = omega arith
noted_total s (datum k h n b) c = omega arith

module _ (d : Disk) (s : List ℕ) where
  -- ---- stretches

  pub walks_none : (todo : List Node) (n : Counts) (cl : List ℕ) → Walks d s todo todo n cl (Ok n) cl
  unfolding goes_on
  walks_none todo n cl =
      record { same = λ ns. refl; count = λ c e. rw (same_counts n c e) (le_refl _); less = λ c e. le_refl _ }

  -- where it has stopped it does not matter what was left
  pub walks_stopped : (a b y : List Node) (n : Counts) (cl cl' : List ℕ) (r : Result Counts Refusal) (x : Refusal)
      → Walks d s a b n cl r cl' → r ≡ Err x → Walks d s a y n cl r cl'
  unfolding goes_on
  walks_stopped a b y n cl cl' r x h e =
      record { same = λ ns. h.same ns ∙ rw e refl; count = h.count; less = h.less }

  module _ (a b x y z : List Node) (n c : Counts) (cl cl₁ cl₂ : List ℕ) (q r : Result Counts Refusal) where
    pub walks_then : Walks d s a b n cl q cl₁ → q ≡ Ok c → b ≡ x ++ z → Walks d s x y c cl₁ r cl₂
        → Walks d s a (y ++ z) n cl r cl₂
    unfolding goes_on
    walks_then g e l h =
        record {
          same =
              λ ns. g.same ns ∙ rw (e, l) (ap (λ (t : List Node). run (graph d s) cl₁ c t) (append_assoc x z ns)
              ∙ h.same (z ++ ns) ∙ ap (λ (t : List Node). goes_on d s r cl₂ t) (sym (append_assoc y z ns)));
          count = λ m f. omega (arith, g.count c e, h.count m f);
          less = λ m f. omega (arith, g.less c e, h.less m f);
        }

  -- what comes after it stays
  pub walks_part : (x y z : List Node) (n : Counts) (cl cl' : List ℕ) (r : Result Counts Refusal)
      → Walks d s x y n cl r cl' → Walks d s (x ++ z) (y ++ z) n cl r cl'
  unfolding goes_on
  walks_part x y z n cl cl' r h =
      walks_then (x ++ z) (x ++ z) x y z n n cl cl cl' (Ok n) r (walks_none (x ++ z) n cl) refl refl h

  -- ---- a block that is met

  module _ (n : Node) (cl cl' : List ℕ) (f : Result Unit Refusal) (h : Met d s n cl f cl') where
    met_verdict : {u : Unit {0}} → f ≡ Ok u → verdict (graph d s) cl n ≡ 0
    met_verdict z = verdict_passed _ (key_of d n) (sym h.told ∙ z)

    pub met_free : {u : Unit {0}} → f ≡ Ok u → free cl ≡ suc (free cl')
    met_free z = rw (h.claims z) (free_set cl (key_of d n) (passed (graph d s) cl n (met_verdict z)).1)

    pub met_range : {u : Unit {0}} → f ≡ Ok u → (first_key ≤ key_of d n) × (key_of d n < d.blocks)
    met_range z = key_passed d (key_of d n) (passed (graph d s) cl n (met_verdict z)).0

    pub met_inside : {u : Unit {0}} → f ≡ Ok u → key_of d n < d.blocks
    met_inside z = (met_range z).1

    pub met_passed : {u : Unit {0}} → f ≡ Ok u → fault_of d s n ≡ 0
    met_passed z = (passed (graph d s) cl n (met_verdict z)).2

    pub met_stops : (rest : List Node) (c : Counts) (cl'' : List ℕ) (x : Refusal) → f ≡ Err x
        → Walks d s (n ∷ []) rest c cl (Err x) cl''
    unfolding goes_on
    met_stops rest c cl'' x t = go (verdict (graph d s) cl n) refl (sym h.told ∙ t)
      where
        go : (v : ℕ) → verdict (graph d s) cl n ≡ v → verdict_at v (key_of d n) ≡ Err x
            → Walks d s (n ∷ []) rest c cl (Err x) cl''
        go zero e q = not_both _ _ (sym q)
        go (suc v) e q =
            record {
              same = λ ns. run_stop (graph d s) cl c n ns v e ∙ refused_as x v (key_of d n) q;
              count = λ m. not_both _ m;
              less = λ m. not_both _ m;
            }

    -- what it leads to comes next
    pub met_goes : (rest : List Node) (c : Counts) (cl'' : List ℕ) (r : Result Counts Refusal) {u : Unit {0}} → f ≡ Ok u
        → Walks d s (leads_to d s n) rest (noted s n c) cl' r cl'' → Walks d s (n ∷ []) rest c cl r cl''
    met_goes rest c cl'' r z w =
        record {
          same =
              λ ns. run_enter (graph d s) cl c n ns (met_verdict z)
              ∙ ap (λ (t : List ℕ). run (graph d s) t (noted s n c) (leads_to d s n ++ ns)) (sym (h.claims z))
              ∙ w.same ns;
          count = λ m e. omega (arith, w.count m e, met_free z, noted_total s n c);
          less = λ m e. omega (arith, w.less m e, met_free z);
        }

  -- ---- what the walk stands on

  pub ready_met : (n : Node) (c : Counts) (cl cl' : List ℕ) (f : Result Unit Refusal) {u : Unit {0}} → Ready d s cl c
      → Met d s n cl f cl' → f ≡ Ok u → length cl' ≡ length cl → (m : Counts) → m ≡ noted s n c → Ready d s cl' m
  ready_met n c cl cl' f h w z l m e =
      record {
        sized = h.sized;
        image = h.image;
        claim = l ∙ h.claim;
        room = rw e (omega (arith, h.room, met_free n cl cl' f w z, noted_total s n c));
      }

  pub ready_walked : (a b : List Node) (n c : Counts) (cl cl' : List ℕ) (r : Result Counts Refusal) → Ready d s cl n
      → Walks d s a b n cl r cl' → r ≡ Ok c → length cl' ≡ length cl → Ready d s cl' c
  ready_walked a b n c cl cl' r h w e l =
      record { sized = h.sized; image = h.image; claim = l ∙ h.claim; room = omega (arith, h.room, w.count c e) }

  -- no count has as much as it can hold
  pub ready_most : (cl : List ℕ) (n : Counts) → Ready d s cl n → total n ≤ most_blocks
  ready_most cl n h = omega (arith, h.room, h.sized.most)

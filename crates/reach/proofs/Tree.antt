-- A graph unfolded into a tree: an item is a node with the way to it, latest step first. What is reached in the one
-- is reached in the other (`up`, `down`), and the walk of the tree is the walk of the graph (`same_run`). Assumes
-- nothing.
use mathlib.Core.Path.{◌≡◌, refl, sym, ap, ap₂, ◌∙◌, subst}
use mathlib.Core.List.{List, [], ◌∷◌, ◌++◌, map, foldr, head-eq_of_cons-eq}
use Prim.Native.Nat.{ℕ, zero, suc, ◌+◌}
use native.Mathlib.Nat.{add-zero}
use native.Mathlib.Omega.{arith}
use lib.ListN.{set}
use Rattle.reach.specs.References.{References, At, ◌∈◌, Uniq, Reached, top, ref}
use Rattle.reach.specs.Walk.{Graph, Outcome, done, refused, verdict}
use Rattle.reach.proofs.Lists.{in_at}
use Rattle.reach.proofs.Runs.{Run, end, stop, enter}

-- ---- items

abbrev pub Item : Type 0 → Type 0
Item Node = List (Node × ℕ) × Node

-- the references of an item, numbered from k
abbrev pub number : {Node : Type 0} → ℕ → Item Node → List Node → List (Item Node)
number k p [] = []
number k p (x ∷ l) = ((p.1, k) ∷ p.0, x) ∷ number (suc k) p l

module _ {Node : Type 0} where
  pub number_at : (k : ℕ) (p : Item Node) (l : List Node) (i : ℕ) (q : Item Node) → At i q (number k p l)
      → (q.0 ≡ (p.1, k + i) ∷ p.0) × At i q.1 l
  number_at k p [] i q h = absurd h
  number_at k p (x ∷ l) zero q h = (ap (λ r. r.0) h ∙ ap (λ j. (p.1, j) ∷ p.0) (sym (add-zero k)), ap (λ r. r.1) h)
  number_at k p (x ∷ l) (suc i) q h =
      let r = number_at (suc k) p l i q h in
      let e : suc k + i ≡ k + suc i = omega arith in
      (r.0 ∙ ap (λ j. (p.1, j) ∷ p.0) e, r.1)

  pub at_number : (k : ℕ) (p : Item Node) (l : List Node) (i : ℕ) (n : Node) → At i n l
      → At i ((p.1, k + i) ∷ p.0, n) (number k p l)
  at_number k p [] i n h = h
  at_number k p (x ∷ l) zero n h = ap₂ (λ j m. ((p.1, j) ∷ p.0, m)) (add-zero k) h
  at_number k p (x ∷ l) (suc i) n h =
      let e : suc k + i ≡ k + suc i = omega arith in
      subst (λ j. At i ((p.1, j) ∷ p.0, n) (number (suc k) p l)) e (at_number (suc k) p l i n h)

  pub number_uniq : (k : ℕ) (p : Item Node) (l : List Node) → Uniq (number k p l)
  number_uniq k p [] = tt
  number_uniq k p (x ∷ l) = (not_in, number_uniq (suc k) p l)
    where
      not_in : ¬ (◌∈◌ {A = Item Node} ((p.1, k) ∷ p.0, x) (number (suc k) p l))
      not_in m =
          let r = in_at ((p.1, k) ∷ p.0, x) (number (suc k) p l) m in
          let e : k ≡ suc k + r.0 = ap (λ q. q.1) (head-eq_of_cons-eq (number_at (suc k) p l r.0 _ r.1).0) in
          omega (arith, e)

  pub map_number : (k : ℕ) (p : Item Node) (l : List Node) (ps : List (Item Node))
      → map (λ q. q.1) (number k p l ++ ps) ≡ l ++ map (λ q. q.1) ps
  map_number k p [] ps = refl
  map_number k p (x ∷ l) ps = ap (x ∷◌) (map_number (suc k) p l ps)

-- ---- the tree of references; reached, both ways

module _ {Node : Type 0} (R : References Node) where
  abbrev pub tree : References (Item Node)
  tree = record { root = ([], R.root); key = λ p. R.key p.1; refs = λ p. number 0 p (R.refs p.1) }

  pub up : {n : Node} → Reached R n → (a : List (Node × ℕ)) × Reached tree (a, n)
  up (top e) = ([], top (ap (λ n. ([], n)) e))
  up (ref {m = m} {n = n} i d h) =
      let r = up d in ((m, 0 + i) ∷ r.0, ref i r.1 (at_number 0 (r.0, m) (R.refs m) i n h))

  pub down : {p : Item Node} → Reached tree p → Reached R p.1
  down (top e) = top (ap (λ p. p.1) e)
  down (ref {m = p} {n = q} i d h) = ref i (down d) (number_at 0 p (R.refs p.1) i q h).1

-- ---- the walk of the tree is the walk of the graph

module _ {Node S : Type 0} (G : Graph Node S) where
  open G.references use {key, refs}

  -- a walk of the tree counts nothing, and keeps the items
  abbrev pub unfolded : Graph (Item Node) (List (Item Node))
  unfolded =
      record {
        references = tree G.references;
        before = λ p. G.before p.1;
        taken = G.taken;
        taken_refuses = G.taken_refuses;
        after = λ p. G.after p.1;
        note = λ p t. p ∷ t;
      }

  -- an item that the tree's root leads to
  abbrev pub InTree : Item Node → Type 0
  InTree p = Reached (tree G.references) p

  module _ (s₀ : S) where
    -- the counts of the items kept
    abbrev pub tally : List (Item Node) → S
    tally t = foldr G.note s₀ (map (λ p. p.1) t)

    abbrev pub told : Outcome (List (Item Node)) → Outcome S
    told (done c t) = done c (tally t)
    told (refused v k) = refused v k

    pub same_run : {c : List ℕ} {t ps : List (Item Node)} {r : Outcome (List (Item Node))} → Run unfolded c t ps r
        → Run G c (tally t) (map (λ p. p.1) ps) (told r)
    unfolding verdict
    same_run end = end
    same_run (stop v e) = stop v e
    same_run (enter {c = c} {s = t} {n = p} {ns = ps} {r = r} e d) =
        enter e (subst (λ l. Run G (set c (key p.1) 1) (tally (p ∷ t)) l (told r))
        (map_number 0 p (refs p.1) ps) (same_run d))

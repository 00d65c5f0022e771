-- What the walk of the tree has found out: enough for the law. At the end all that is reached is found (`found_all`).
-- Assumes nothing.
use mathlib.Core.Path.{◌≡◌, sym, ap, ◌∙◌, subst}
use mathlib.Core.Logic.{◌≢◌, ◌⊎◌, inl, inr}
use mathlib.Core.List.{List, [], ◌∷◌, ◌++◌}
use Prim.Native.Nat.{ℕ}
use lib.ListN.{get_or, set}
use Rattle.reach.specs.References.{◌∈◌, top, ref}
use Rattle.reach.specs.Walk.{Graph, verdict}
use Rattle.reach.proofs.Lists.{in_left, in_right, at_in}
use Rattle.reach.proofs.Claims.{mark_same, mark_other, apart_bytes}
use Rattle.reach.proofs.Runs.{passed}
use Rattle.reach.proofs.Tree.{Item, tree, unfolded, InTree}

pub now_here : {X : Type 0} → ⊥ ⊎ X → X
now_here (inl h) = absurd h
now_here (inr h) = h

module _ {Node S : Type 0} (G : Graph Node S) where
  open tree G.references use {root as start, key as K, refs as kids}

  -- no two items have one key
  abbrev pub Distinct : List (Item Node) → Type 0
  Distinct [] = Unit {0}
  Distinct (p ∷ s) = ((q : Item Node) → q ∈ s → K q ≢ K p) × Distinct s

  pub distinct_one : (s : List (Item Node)) → Distinct s → (p q : Item Node) → p ∈ s → q ∈ s → K p ≡ K q → p ≡ q
  distinct_one [] d p q h h' e = absurd h
  distinct_one (x ∷ s) d p q (inl h) (inl h') e = h ∙ sym h'
  distinct_one (x ∷ s) d p q (inl h) (inr h') e = absurd (d.0 q h' (sym e ∙ ap K h))
  distinct_one (x ∷ s) d p q (inr h) (inl h') e = absurd (d.0 p h (e ∙ ap K h'))
  distinct_one (x ∷ s) d p q (inr h) (inr h') e = distinct_one s d.1 p q h h' e

  -- c: the claims; s: the items done; xs: the items to do
  pub record Found (c : List ℕ) (s : List (Item Node)) (xs : List (Item Node)) : Type 0 where
    pub rooted : (start ∈ xs) ⊎ (start ∈ s)
    pub closed : (p q : Item Node) → p ∈ s → q ∈ kids p → (q ∈ xs) ⊎ (q ∈ s)
    pub distinct : Distinct s
    pub good : (p : Item Node) → p ∈ s → (G.before p.1 ≡ 0) × (G.after p.1 ≡ 0)
    pub marked : (p : Item Node) → p ∈ s → get_or c (K p) 1 ≡ 1

  pub found_next : (c : List ℕ) (s : List (Item Node)) (p : Item Node) (ps : List (Item Node))
      → verdict (unfolded G) c p ≡ 0 → Found c s (p ∷ ps) → Found (set c (K p) 1) (p ∷ s) (kids p ++ ps)
  found_next c s p ps e i =
      record {
        rooted = shift start i.rooted;
        closed = closed';
        distinct = ((λ q m. apart_bytes c (K p) (K q) zero' (i.marked q m)), i.distinct);
        good = good';
        marked = marked';
      }
    where
      ok : (G.before p.1 ≡ 0) × (get_or c (K p) 1 ≡ 0) × (G.after p.1 ≡ 0)
      ok = passed (unfolded G) c p e

      zero' : get_or c (K p) 1 ≡ 0
      zero' = ok.1

      shift : (q : Item Node) → (q ∈ (p ∷ ps)) ⊎ (q ∈ s) → (q ∈ (kids p ++ ps)) ⊎ (q ∈ (p ∷ s))
      shift q (inl (inl h)) = inr (inl h)
      shift q (inl (inr h)) = inl (in_right q (kids p) ps h)
      shift q (inr h) = inr (inr h)

      closed' : (p' q : Item Node) → p' ∈ (p ∷ s) → q ∈ kids p' → (q ∈ (kids p ++ ps)) ⊎ (q ∈ (p ∷ s))
      closed' p' q (inl h) m = inl (in_left q (kids p) ps (subst (λ x. q ∈ kids x) h m))
      closed' p' q (inr h) m = shift q (i.closed p' q h m)

      good' : (q : Item Node) → q ∈ (p ∷ s) → (G.before q.1 ≡ 0) × (G.after q.1 ≡ 0)
      good' q (inl h) = subst (λ x. (G.before x.1 ≡ 0) × (G.after x.1 ≡ 0)) (sym h) (ok.0, ok.2)
      good' q (inr h) = i.good q h

      marked' : (q : Item Node) → q ∈ (p ∷ s) → get_or (set c (K p) 1) (K q) 1 ≡ 1
      marked' q (inl h) = subst (λ x. get_or (set c (K p) 1) (K x) 1 ≡ 1) (sym h) (mark_same c (K p) zero')
      marked' q (inr h) = mark_other c (K p) (K q) (apart_bytes c (K p) (K q) zero' (i.marked q h)) ∙ i.marked q h

  -- with nothing left to do, all that is reached is found
  pub found_all : (c : List ℕ) (s : List (Item Node)) → Found c s [] → {p : Item Node} → InTree G p → p ∈ s
  found_all c s i (top e) = subst (λ x. x ∈ s) (sym e) (now_here i.rooted)
  found_all c s i (ref {m = m} {n = n} j d h) = now_here (i.closed m n (found_all c s i d) (at_in n j (kids m) h))

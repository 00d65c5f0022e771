-- What the walk of the tree keeps true: all is reached, nothing stands twice, and each claim has an item that made
-- it. Assumes nothing.
use mathlib.Core.Path.{◌≡◌, refl, sym, ap, ap₂, ◌∙◌, subst}
use mathlib.Core.Logic.{◌≢◌, ◌⊎◌, inl, inr}
use mathlib.Core.List.{List, ◌∷◌, ◌++◌, head-eq_of_cons-eq, tail-eq_of_cons-eq}
use Prim.Native.Nat.{ℕ, ◌+◌, ◌<◌}
use native.Mathlib.Decide.{ℕ_discrete}
use lib.ListN.{length, get_or, set, length-set}
use Rattle.reach.specs.References.{At, ◌∈◌, Uniq, ref}
use Rattle.reach.specs.Walk.{Graph, verdict}
use Rattle.reach.proofs.Lists.{in_either, in_at, uniq_append}
use Rattle.reach.proofs.Claims.{mark_same, mark_other}
use Rattle.reach.proofs.Runs.{passed}
use Rattle.reach.proofs.Tree.{Item, number_at, number_uniq, tree, unfolded, InTree}

module _ {Node S : Type 0} (G : Graph Node S) where
  open G.references use {refs}
  open tree G.references use {key as K, refs as kids}

  -- the claim byte of k is 0; or it is 1, and one of the items s has that key
  abbrev pub Claim : List ℕ → List (Item Node) → ℕ → Type 0
  Claim c s k = (get_or c k 1 ≡ 0) ⊎ ((get_or c k 1 ≡ 1) × ((p : Item Node) × (p ∈ s) × (K p ≡ k)))

  -- c: the claims; s: the items done; xs: the items to do
  pub record Kept (c : List ℕ) (s : List (Item Node)) (xs : List (Item Node)) : Type 0 where
    -- all is reached
    pub todo : (p : Item Node) → p ∈ xs → InTree G p
    pub seen : (p : Item Node) → p ∈ s → InTree G p
    pub bytes : (k : ℕ) → k < length c → Claim c s k
    -- nothing stands twice in what is to do, or there and in what is done
    pub uniq : Uniq xs
    pub apart : (p : Item Node) → p ∈ xs → p ∈ s → ⊥
    -- whoever refers to an item is done
    pub parent : (p : Item Node) (m : Node) (j : ℕ) (a : List (Node × ℕ)) → (p ∈ xs) ⊎ (p ∈ s) → p.0 ≡ (m, j) ∷ a
        → (a, m) ∈ s

  pub kept_next : (c : List ℕ) (s : List (Item Node)) (p : Item Node) (ps : List (Item Node))
      → verdict (unfolded G) c p ≡ 0 → Kept c s (p ∷ ps) → Kept (set c (K p) 1) (p ∷ s) (kids p ++ ps)
  kept_next c s p ps e i =
      record {
        todo = todo';
        seen = seen';
        bytes = bytes';
        uniq = uniq_append (kids p) ps (number_uniq 0 p (refs p.1)) i.uniq.1
            (λ x m m'. fresh x m (inl (inr m')));
        apart = apart';
        parent = parent';
      }
    where
      zero' : get_or c (K p) 1 ≡ 0
      zero' = (passed (unfolded G) c p e).1

      kid : (x : Item Node) → x ∈ kids p → (j : ℕ) × (At j x (kids p)) × (x.0 ≡ (p.1, 0 + j) ∷ p.0)
      kid x m = let r = in_at x (kids p) m in (r.0, r.1, (number_at 0 p (refs p.1) r.0 x r.1).0)

      -- a reference of p is nowhere yet: who refers to it would be done, and that is p
      fresh : (x : Item Node) → x ∈ kids p → (x ∈ (p ∷ ps)) ⊎ (x ∈ s) → ⊥
      fresh x m h = i.apart p (inl refl) (i.parent x p.1 _ p.0 h (kid x m).2)

      todo' : (x : Item Node) → x ∈ (kids p ++ ps) → InTree G x
      todo' x m = go (in_either x (kids p) ps m)
        where
          go : (x ∈ kids p) ⊎ (x ∈ ps) → InTree G x
          go (inl h) = ref (kid x h).0 (i.todo p (inl refl)) (kid x h).1
          go (inr h) = i.todo x (inr h)

      seen' : (x : Item Node) → x ∈ (p ∷ s) → InTree G x
      seen' x (inl h) = subst (InTree G) (sym h) (i.todo p (inl refl))
      seen' x (inr h) = i.seen x h

      bytes' : (k : ℕ) → k < length (set c (K p) 1) → Claim (set c (K p) 1) (p ∷ s) k
      bytes' k b = go (ℕ_discrete k (K p))
        where
          old : k ≢ K p → Claim c s k → Claim (set c (K p) 1) (p ∷ s) k
          old h (inl z) = inl (mark_other c (K p) k h ∙ z)
          old h (inr w) = inr (mark_other c (K p) k h ∙ w.0, (w.1.0, inr w.1.1, w.1.2))

          go : Dec (k ≡ K p) → Claim (set c (K p) 1) (p ∷ s) k
          go (yes h) =
              inr (subst (λ y. get_or (set c (K p) 1) y 1 ≡ 1) (sym h) (mark_same c (K p) zero'), (p, inl refl, sym h))
          go (no h) = old h (i.bytes k (subst (λ y. k < y) (length-set c (K p) 1) b))

      apart' : (x : Item Node) → x ∈ (kids p ++ ps) → x ∈ (p ∷ s) → ⊥
      apart' x m m' = go (in_either x (kids p) ps m) m'
        where
          go : (x ∈ kids p) ⊎ (x ∈ ps) → x ∈ (p ∷ s) → ⊥
          go (inl h) (inl h') = fresh x h (inl (inl h'))
          go (inl h) (inr h') = fresh x h (inr h')
          go (inr h) (inl h') = i.uniq.0 (subst (λ y. y ∈ ps) h' h)
          go (inr h) (inr h') = i.apart x (inr h) h'

      parent' : (x : Item Node) (m : Node) (j : ℕ) (a : List (Node × ℕ)) → (x ∈ (kids p ++ ps)) ⊎ (x ∈ (p ∷ s))
          → x.0 ≡ (m, j) ∷ a → (a, m) ∈ (p ∷ s)
      parent' x m j a (inl h) e = go (in_either x (kids p) ps h)
        where
          go : (x ∈ kids p) ⊎ (x ∈ ps) → (a, m) ∈ (p ∷ s)
          go (inl h) =
              let f = sym e ∙ (kid x h).2 in
              inl (ap₂ (λ y z. (y, z)) (tail-eq_of_cons-eq f) (ap (λ y. y.0) (head-eq_of_cons-eq f)))
          go (inr h) = inr (i.parent x m j a (inl (inr h)) e)
      parent' x m j a (inr (inl h)) e = inr (i.parent x m j a (inl (inl h)) e)
      parent' x m j a (inr (inr h)) e = inr (i.parent x m j a (inr h) e)

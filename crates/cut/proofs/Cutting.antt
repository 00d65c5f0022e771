-- From the graph with the entry to the one without: if the first is owned once, so is the second, and so is what is
-- k's, and they share no key (`cut_parted`); what was reached is reached without the entry, or is k's
-- (`cut_reached`). Assumes nothing.
use mathlib.Core.Path.{◌≡◌, refl, sym, ap, ◌∙◌, subst}
use mathlib.Core.Logic.{◌≢◌, ◌⊎◌, inl, inr}
use mathlib.Core.List.{List, [], ◌∷◌, ◌++◌}
use Prim.Native.Nat.{ℕ}
use native.Mathlib.Decide.{ℕ_discrete}
use Rattle.reach.specs.References.{◌∈◌, Reached, top, ref, Owned}
use Rattle.reach.proofs.Lists.{in_left, in_right, at_in}
use Rattle.cut.specs.Cut.{from, Cut, Parted}
use Rattle.cut.proofs.Lists.{Once, in_three, in_outer, in_middle, once_left, once_right, once_apart, once_outer}
use Rattle.cut.proofs.Lists.{once_insert, outer_apart}
use Rattle.cut.proofs.Singles.{leads, Single, owned_single, one_node, single_owned, Below, next, on, below_from}
use Rattle.cut.proofs.Singles.{acyclic}

module _ {Node : Type 0} (root : Node) (key : Node → ℕ) (refs refs' own : Node → List Node) (p k : Node)
    (c : Cut root key refs refs' own p k) where
  -- reached with the entry, without it, and from the entry itself
  abbrev With : Node → Type 0
  With = Reached (from root key refs)

  abbrev Without : Node → Type 0
  Without = Reached (from root key refs')

  abbrev Mine : Node → Type 0
  Mine = Reached (from k key own)

  -- ---- what each of the three graphs has of the others, whatever is owned

  pub k_in : k ∈ refs p
  k_in = subst (λ l. k ∈ l) (sym c.hung) (in_right k c.front (k ∷ c.back) (inl refl))

  pub own_in : (n : Node) → n ∈ own k → n ∈ refs k
  own_in n h = subst (λ l. n ∈ l) (sym c.entry) (in_left n (own k) c.links h)

  pub links_in : (n : Node) → n ∈ c.links → n ∈ refs k
  links_in n h = subst (λ l. n ∈ l) (sym c.entry) (in_right n (own k) c.links h)

  -- of p's references, those that stay
  pub stay_in : (n : Node) → n ∈ (c.front ++ c.back) → n ∈ refs p
  stay_in n h = subst (λ l. n ∈ l) (sym c.hung) (in_outer n c.front (k ∷ []) c.back h)

  pub stays : (n : Node) → n ∈ (c.front ++ c.back) → n ∈ refs' p
  stays n h = subst (λ l. n ∈ l) (sym c.past) (in_outer n c.front c.links c.back h)

  pub links_past : (n : Node) → n ∈ c.links → n ∈ refs' p
  links_past n h = subst (λ l. n ∈ l) (sym c.past) (in_middle n c.front c.links c.back h)

  pub at_p : (n : Node) → n ∈ refs' p → (n ∈ (c.front ++ c.back)) ⊎ (n ∈ c.links)
  at_p n h = in_three n c.front c.links c.back (subst (λ l. n ∈ l) c.past h)

  -- ---- the graph with the entry is owned once

  module _ (reached : With p) (owned : Owned (from root key refs)) where
    one : {m n : Node} → With m → With n → key m ≡ key n → m ≡ n
    one = one_node (from root key refs) owned

    S : Single (from root key refs)
    S = owned_single (from root key refs) owned

    k_reached : With k
    k_reached = leads (from root key refs) reached k_in

    -- who refers to what is k's
    own_refs : (m n : Node) → Mine m → With m → n ∈ own m → n ∈ refs m
    own_refs m n r w h = go (ℕ_discrete (key m) (key k))
      where
        go : Dec (key m ≡ key k) → n ∈ refs m
        go (yes e) =
            let q = one w k_reached e in subst (λ x. n ∈ refs x) (sym q) (own_in n (subst (λ x. n ∈ own x) q h))
        go (no e) = subst (λ l. n ∈ l) (c.inner m r e) h

    -- what is k's is reached, and is k or lies below it
    mine_below : {n : Node} → Mine n → With n × ((n ≡ k) ⊎ Below (from root key refs) k n)
    mine_below (top e) = (subst With (sym e) k_reached, inl e)
    mine_below (ref {m = m} {n = n} i r h) =
        let w = mine_below r in
        let g = own_refs m n r w.0 (at_in n i (own m) h) in
        (leads (from root key refs) w.0 g, inr (go g w.1))
      where
        go : n ∈ refs m → (m ≡ k) ⊎ Below (from root key refs) k m → Below (from root key refs) k n
        go g (inl e) = next (subst (λ x. n ∈ refs x) e g)
        go g (inr b) = on b g

    pub mine_reached : {n : Node} → Mine n → With n
    mine_reached r = (mine_below r).0

    -- p is not k, nor below it: so it is not k's, and is reached without k
    p_not : (p ≡ k) ⊎ Below (from root key refs) k p → ⊥
    p_not (inl e) = acyclic (from root key refs) owned reached (next (subst (λ x. x ∈ refs p) (sym e) k_in))
    p_not (inr b) = acyclic (from root key refs) owned reached (below_from (from root key refs) k_in b)

    pub p_out : Mine p → ⊥
    p_out r = p_not (mine_below r).1

    ahead : {n : Node} → With n → ((n ≡ k) ⊎ Below (from root key refs) k n → ⊥) → Without n
    ahead (top e) no-k = top e
    ahead (ref {m = m} {n = n} i r h) no-k =
        leads (from root key refs') (ahead r (λ x. no-k (inr (under x)))) (go (ℕ_discrete (key m) (key p)))
      where
        under : (m ≡ k) ⊎ Below (from root key refs) k m → Below (from root key refs) k n
        under (inl e) = next (subst (λ x. n ∈ refs x) e (at_in n i (refs m) h))
        under (inr b) = on b (at_in n i (refs m) h)

        kept : (n ∈ (c.front ++ c.back)) ⊎ (n ∈ (k ∷ [])) → n ∈ refs' p
        kept (inl g) = stays n g
        kept (inr (inl e)) = absurd (no-k (inl e))
        kept (inr (inr g)) = absurd g

        go : Dec (key m ≡ key p) → n ∈ refs' m
        go (yes e) =
            let q = one r reached e in
            subst (λ x. n ∈ refs' x) (sym q)
            (kept (in_three n c.front (k ∷ []) c.back
            (subst (λ l. n ∈ l) (ap refs q ∙ c.hung) (at_in n i (refs m) h))))
        go (no e) = subst (λ l. n ∈ l) (sym (c.same m e)) (at_in n i (refs m) h)

    pub p_rests : Without p
    p_rests = ahead reached p_not

    -- a reference of the graph without the entry: of another node than p, of p where it stays, or of p to a successor
    data Rests (m n : Node) : Type 0 where
      else : key m ≢ key p → n ∈ refs m → Rests m n
      stay : m ≡ p → n ∈ (c.front ++ c.back) → Rests m n
      link : m ≡ p → n ∈ c.links → Rests m n

    rests : (m n : Node) → With m → n ∈ refs' m → Rests m n
    rests m n w h = go (ℕ_discrete (key m) (key p))
      where
        at : m ≡ p → (n ∈ (c.front ++ c.back)) ⊎ (n ∈ c.links) → Rests m n
        at e (inl g) = stay e g
        at e (inr g) = link e g

        go : Dec (key m ≡ key p) → Rests m n
        go (yes e) = let q = one w reached e in at q (at_p n (subst (λ x. n ∈ refs' x) q h))
        go (no e) = else e (subst (λ l. n ∈ l) (c.same m e) h)

    -- who referred to it before: the same, or k where p does now
    pub record Was (m n : Node) : Type 0 where
      pub who : Node
      pub there : With who
      pub holds : n ∈ refs who
      pub how : (who ≡ m) ⊎ ((who ≡ k) × (m ≡ p))

    was : (m n : Node) → With m → Rests m n → Was m n
    was m n w (else e h) = record { who = m; there = w; holds = h; how = inl refl }
    was m n w (stay e h) =
        record { who = m; there = w; holds = subst (λ x. n ∈ refs x) (sym e) (stay_in n h); how = inl refl }
    was m n w (link e h) = record { who = k; there = k_reached; holds = links_in n h; how = inr (refl, e) }

    pub rest_reached : {n : Node} → Without n → With n
    rest_reached (top e) = top e
    rest_reached (ref {m = m} {n = n} i r h) =
        let w = rest_reached r in
        let q = was m n w (rests m n w (at_in n i (refs' m) h)) in
        leads (from root key refs) q.there q.holds

    -- ---- nothing that is reached without the entry is k's

    mine_root : (n : Node) → Mine n → n ≡ root → ⊥
    mine_root n (top e) q = S.none p k reached k_in (ap key (sym e ∙ q))
    mine_root n (ref {m = m} i r h) q =
        S.none m n (mine_reached r) (own_refs m n r (mine_reached r) (at_in n i (own m) h)) (ap key q)

    -- k has no other reference than p's, and what is k's none but k's
    not_mine : (m n : Node) → With m → (Mine m → ⊥) → Rests m n → Mine n → ⊥
    not_mine m n w out (else e h) (top q) = e (S.parent m p n k w reached h k_in (ap key q))
    not_mine m n w out (stay e h) (top q) =
        outer_apart key c.front (k ∷ []) c.back (subst (Once key) c.hung (S.lists p reached)) n k h (inl refl)
        (ap key q)
    not_mine m n w out (link e h) (top q) =
        p_out (top (sym (one k_reached reached (S.parent k p n k k_reached reached (links_in n h) k_in (ap key q)))))
    not_mine m n w out (else e h) (ref {m = x} i r g) =
        let v = mine_reached r in
        out (subst Mine (one v w (S.parent x m n n v w (own_refs x n r v (at_in n i (own x) g)) h refl)) r)
    not_mine m n w out (stay e h) (ref {m = x} i r g) =
        let v = mine_reached r in
        p_out (subst Mine (one v reached
        (S.parent x p n n v reached (own_refs x n r v (at_in n i (own x) g)) (stay_in n h) refl)) r)
    not_mine m n w out (link e h) (ref {m = x} i r g) =
        let v = mine_reached r in
        let q =
        one v k_reached (S.parent x k n n v k_reached (own_refs x n r v (at_in n i (own x) g)) (links_in n h) refl) in
        once_apart key (own k) c.links (subst (Once key) c.entry (S.lists k k_reached)) n n
        (subst (λ y. n ∈ own y) q (at_in n i (own x) g)) h refl

    out : {n : Node} → Without n → Mine n → ⊥
    out {n} (top e) r = mine_root n r e
    out (ref {m = m} {n = n} i r h) g =
        let w = rest_reached r in not_mine m n w (out r) (rests m n w (at_in n i (refs' m) h)) g

    -- ---- owned once

    rest_single : Single (from root key refs')
    rest_single =
        record {
          lists = lists';
          parent = parent';
          none =
              λ m n r h. let w =
              rest_reached r in let q = was m n w (rests m n w h) in S.none q.who n q.there q.holds;
        }
      where
        past_once : Once key (refs' p)
        past_once =
            let u = subst (Once key) c.hung (S.lists p reached) in
            let v = subst (Once key) c.entry (S.lists k k_reached) in
            subst (Once key) (sym c.past)
            (once_insert key c.front c.links c.back (once_outer key c.front (k ∷ []) c.back u)
            (once_right key (own k) c.links v)
            (λ a b h g e. p_out (top (one reached k_reached
            (S.parent p k a b reached k_reached (stay_in a h) (links_in b g) e)))))

        lists' : (m : Node) → Without m → Once key (refs' m)
        lists' m r = go (ℕ_discrete (key m) (key p))
          where
            go : Dec (key m ≡ key p) → Once key (refs' m)
            go (yes e) = subst (λ x. Once key (refs' x)) (sym (one (rest_reached r) reached e)) past_once
            go (no e) = subst (Once key) (sym (c.same m e)) (S.lists m (rest_reached r))

        parent' : (m m' n n' : Node) → Without m → Without m' → n ∈ refs' m → n' ∈ refs' m' → key n ≡ key n'
            → key m ≡ key m'
        parent' m m' n n' r r' h h' e =
            let w = rest_reached r in
            let w' = rest_reached r' in
            let q = was m n w (rests m n w h) in
            let q' = was m' n' w' (rests m' n' w' h') in
            go (S.parent q.who q'.who n n' q.there q'.there q.holds q'.holds e) q.how q'.how
          where
            go : {x y : Node} → key x ≡ key y → (x ≡ m) ⊎ ((x ≡ k) × (m ≡ p)) → (y ≡ m') ⊎ ((y ≡ k) × (m' ≡ p))
                → key m ≡ key m'
            go z (inl a) (inl b) = sym (ap key a) ∙ z ∙ ap key b
            go z (inl a) (inr b) =
                absurd (out r (top (one (rest_reached r) k_reached (sym (ap key a) ∙ z ∙ ap key b.0))))
            go z (inr a) (inl b) =
                absurd (out r' (top (one (rest_reached r') k_reached (sym (ap key b) ∙ sym z ∙ ap key a.0))))
            go z (inr a) (inr b) = ap key (a.1 ∙ sym b.1)

    mine_single : Single (from k key own)
    mine_single = record { lists = lists'; parent = parent'; none = none' }
      where
        lists' : (m : Node) → Mine m → Once key (own m)
        lists' m r = go (ℕ_discrete (key m) (key k))
          where
            go : Dec (key m ≡ key k) → Once key (own m)
            go (yes e) =
                subst (λ x. Once key (own x)) (sym (one (mine_reached r) k_reached e))
                (once_left key (own k) c.links (subst (Once key) c.entry (S.lists k k_reached)))
            go (no e) = subst (Once key) (sym (c.inner m r e)) (S.lists m (mine_reached r))

        parent' : (m m' n n' : Node) → Mine m → Mine m' → n ∈ own m → n' ∈ own m' → key n ≡ key n' → key m ≡ key m'
        parent' m m' n n' r r' h h' e =
            let w = mine_reached r in
            let w' = mine_reached r' in
            S.parent m m' n n' w w' (own_refs m n r w h) (own_refs m' n' r' w' h') e

        none' : (m n : Node) → Mine m → n ∈ own m → key n ≢ key k
        none' m n r h e =
            let w = mine_reached r in
            p_out (subst Mine (one w reached (S.parent m p n k w reached (own_refs m n r w h) k_in e)) r)

    pub cut_parted : Parted root key refs refs' own p k
    cut_parted =
        record {
          rest = single_owned (from root key refs') (λ m n r g. one (rest_reached r) (rest_reached g)) rest_single;
          mine = single_owned (from k key own) (λ m n r g. one (mine_reached r) (mine_reached g)) mine_single;
          apart = λ m n r g e. out r (subst Mine (one (mine_reached g) (rest_reached r) (sym e)) g);
        }

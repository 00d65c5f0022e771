-- From the graph without the entry to the one with it: if the rest and what is k's are each owned once and share no
-- key, the whole is owned once (`join_owned`); what is reached is what was reached, and what is k's (`join_reached`,
-- and `cut_reached` from the whole). Assumes nothing.
use mathlib.Core.Path.{◌≡◌, refl, sym, ap, ◌∙◌, subst}
use mathlib.Core.Logic.{◌≢◌, ◌⊎◌, inl, inr, ◌↔◌}
use mathlib.Core.List.{List, [], ◌∷◌, ◌++◌}
use Prim.Native.Nat.{ℕ}
use native.Mathlib.Decide.{ℕ_discrete}
use Rattle.reach.specs.References.{◌∈◌, Reached, top, ref, Owned}
use Rattle.reach.proofs.Lists.{in_either, at_in}
use Rattle.cut.specs.Cut.{from, Cut, Parted}
use Rattle.cut.proofs.Lists.{Once, in_three, once_join, once_middle, once_outer, once_insert, outer_apart}
use Rattle.cut.proofs.Singles.{leads, Single, owned_single, one_node, single_owned}
use Rattle.cut.proofs.Cutting.{k_in, own_in, links_in, stay_in, stays, links_past, at_p, cut_parted, p_rests}

module _ {Node : Type 0} (root : Node) (key : Node → ℕ) (refs refs' own : Node → List Node) (p k : Node)
    (c : Cut root key refs refs' own p k) where
  abbrev With : Node → Type 0
  With = Reached (from root key refs)

  abbrev Without : Node → Type 0
  Without = Reached (from root key refs')

  abbrev Mine : Node → Type 0
  Mine = Reached (from k key own)

  module _ (reached : Without p) (parts : Parted root key refs refs' own p k) where
    one' : {m n : Node} → Without m → Without n → key m ≡ key n → m ≡ n
    one' = one_node (from root key refs') parts.rest

    one_k : {m n : Node} → Mine m → Mine n → key m ≡ key n → m ≡ n
    one_k = one_node (from k key own) parts.mine

    k_mine : Mine k
    k_mine = top refl

    -- a reference of the whole: it was there, it was p's and is k's now, it is within what is k's, or it is the new one
    data Stands (m n : Node) : Type 0 where
      rest : Without m → n ∈ refs' m → (m ≡ p → n ∈ (c.front ++ c.back)) → Stands m n
      link : m ≡ k → n ∈ c.links → Stands m n
      mine : Mine m → n ∈ own m → Stands m n
      hung : m ≡ p → n ≡ k → Stands m n

    stands : (m n : Node) → Without m ⊎ Mine m → n ∈ refs m → Stands m n
    stands m n (inl r) h = go (ℕ_discrete (key m) (key p))
      where
        at : m ≡ p → (n ∈ (c.front ++ c.back)) ⊎ (n ∈ (k ∷ [])) → Stands m n
        at e (inl g) = rest r (subst (λ x. n ∈ refs' x) (sym e) (stays root key refs refs' own p k c n g)) (λ _. g)
        at e (inr (inl g)) = hung e g
        at e (inr (inr g)) = absurd g

        go : Dec (key m ≡ key p) → Stands m n
        go (yes e) =
            let q = one' r reached e in
            at q (in_three n c.front (k ∷ []) c.back (subst (λ l. n ∈ l) (ap refs q ∙ c.hung) h))
        go (no e) = rest r (subst (λ l. n ∈ l) (sym (c.same m e)) h) (λ q. absurd (e (ap key q)))
    stands m n (inr r) h = go (ℕ_discrete (key m) (key k))
      where
        at : m ≡ k → (n ∈ own k) ⊎ (n ∈ c.links) → Stands m n
        at e (inl g) = mine r (subst (λ x. n ∈ own x) (sym e) g)
        at e (inr g) = link e g

        go : Dec (key m ≡ key k) → Stands m n
        go (yes e) =
            let q = one_k r k_mine e in
            at q (in_either n (own k) c.links (subst (λ l. n ∈ l) (ap refs q ∙ c.entry) h))
        go (no e) = mine r (subst (λ l. n ∈ l) (sym (c.inner m r e)) h)

    -- ---- reached

    -- who refers to it without the entry, or within what is k's
    pub record Before (n : Node) : Type 0 where
      pub who : Node
      pub there : Without who
      pub holds : n ∈ refs' who

    before : {m n : Node} → Without m → n ∈ refs' m → Before n
    before {m} r h = record { who = m; there = r; holds = h }

    before_link : {n : Node} → n ∈ c.links → Before n
    before_link {n} h = before reached (links_past root key refs refs' own p k c n h)

    lies : {m n : Node} → Stands m n → Before n ⊎ Mine n
    lies (rest r h _) = inl (before r h)
    lies (link e h) = inl (before_link h)
    lies (mine r h) = inr (leads (from k key own) r h)
    lies (hung e q) = inr (top q)

    side : {n : Node} → Before n ⊎ Mine n → Without n ⊎ Mine n
    side (inl b) = inl (leads (from root key refs') b.there b.holds)
    side (inr r) = inr r

    parted : {n : Node} → With n → Without n ⊎ Mine n
    parted (top e) = inl (top e)
    parted (ref {m = m} {n = n} i r h) = side (lies (stands m n (parted r) (at_in n i (refs m) h)))

    rest_with : {n : Node} → Without n → With n
    rest_with (top e) = top e
    rest_with (ref {m = m} {n = n} i r h) = go (ℕ_discrete (key m) (key p)) (rest_with r)
      where
        at : With p → (n ∈ (c.front ++ c.back)) ⊎ (n ∈ c.links) → With n
        at w (inl g) = leads (from root key refs) w (stay_in root key refs refs' own p k c n g)
        at w (inr g) =
            leads (from root key refs) (leads (from root key refs) w (k_in root key refs refs' own p k c))
            (links_in root key refs refs' own p k c n g)

        go : Dec (key m ≡ key p) → With m → With n
        go (yes e) w =
            let q = one' r reached e in
            at (subst With q w) (at_p root key refs refs' own p k c n
            (subst (λ x. n ∈ refs' x) q (at_in n i (refs' m) h)))
        go (no e) w = leads (from root key refs) w (subst (λ l. n ∈ l) (c.same m e) (at_in n i (refs' m) h))

    mine_with : {n : Node} → Mine n → With n
    mine_with (top e) =
        subst With (sym e) (leads (from root key refs) (rest_with reached) (k_in root key refs refs' own p k c))
    mine_with (ref {m = m} {n = n} i r h) = go (ℕ_discrete (key m) (key k)) (mine_with r)
      where
        go : Dec (key m ≡ key k) → With m → With n
        go (yes e) w =
            let q = one_k r k_mine e in
            leads (from root key refs) (subst With q w)
            (own_in root key refs refs' own p k c n (subst (λ x. n ∈ own x) q (at_in n i (own m) h)))
        go (no e) w = leads (from root key refs) w (subst (λ l. n ∈ l) (c.inner m r e) (at_in n i (own m) h))

    pub join_reached : (n : Node) → With n ↔ (Without n ⊎ Mine n)
    join_reached n = (parted, both)
      where
        both : Without n ⊎ Mine n → With n
        both (inl r) = rest_with r
        both (inr r) = mine_with r

    -- ---- owned once

    S' : Single (from root key refs')
    S' = owned_single (from root key refs') parts.rest

    SK : Single (from k key own)
    SK = owned_single (from k key own) parts.mine

    with_one : (m n : Node) → With m → With n → key m ≡ key n → m ≡ n
    with_one m n r g e = go (parted r) (parted g)
      where
        go : Without m ⊎ Mine m → Without n ⊎ Mine n → m ≡ n
        go (inl a) (inl b) = one' a b e
        go (inl a) (inr b) = absurd (parts.apart m n a b e)
        go (inr a) (inl b) = absurd (parts.apart n m b a (sym e))
        go (inr a) (inr b) = one_k a b e

    past_once : Once key (c.front ++ (c.links ++ c.back))
    past_once = subst (Once key) c.past (S'.lists p reached)

    -- a reference within the rest is no reference of what is k's
    never : {n n' : Node} → Before n → Mine n' → key n ≡ key n' → ⊥
    never {n} {n'} b r e = parts.apart n n' (leads (from root key refs') b.there b.holds) r e

    -- the same, and p's references that stay are none of k's successors
    moved : (m n n' : Node) → Without m → n ∈ refs' m → (m ≡ p → n ∈ (c.front ++ c.back)) → n' ∈ c.links
        → key n ≡ key n' → ⊥
    moved m n n' r h f g e =
        let q = one' r reached (S'.parent m p n n' r reached h (links_past root key refs refs' own p k c n' g) e) in
        outer_apart key c.front c.links c.back past_once n n' (f q) g e

    same_who : (m m' n n' : Node) → Stands m n → Stands m' n' → key n ≡ key n' → key m ≡ key m'
    same_who m m' n n' (rest r h f) (rest r' h' f') e = S'.parent m m' n n' r r' h h' e
    same_who m m' n n' (rest r h f) (link q g) e = absurd (moved m n n' r h f g e)
    same_who m m' n n' (rest r h f) (mine r' h') e = absurd (never (before r h) (leads (from k key own) r' h') e)
    same_who m m' n n' (rest r h f) (hung q q') e = absurd (never (before r h) (top q') e)
    same_who m m' n n' (link q g) (rest r h f) e = absurd (moved m' n' n r h f g (sym e))
    same_who m m' n n' (link q g) (link q' g') e = ap key (q ∙ sym q')
    same_who m m' n n' (link q g) (mine r h) e = absurd (never (before_link g) (leads (from k key own) r h) e)
    same_who m m' n n' (link q g) (hung u v) e = absurd (never (before_link g) (top v) e)
    same_who m m' n n' (mine r h) (rest r' h' f) e = absurd (never (before r' h') (leads (from k key own) r h) (sym e))
    same_who m m' n n' (mine r h) (link q g) e = absurd (never (before_link g) (leads (from k key own) r h) (sym e))
    same_who m m' n n' (mine r h) (mine r' h') e = SK.parent m m' n n' r r' h h' e
    same_who m m' n n' (mine r h) (hung q q') e = absurd (SK.none m n r h (e ∙ ap key q'))
    same_who m m' n n' (hung q q') (rest r h f) e = absurd (never (before r h) (top q') (sym e))
    same_who m m' n n' (hung q q') (link u g) e = absurd (never (before_link g) (top q') (sym e))
    same_who m m' n n' (hung q q') (mine r h) e = absurd (SK.none m' n' r h (sym e ∙ ap key q'))
    same_who m m' n n' (hung q q') (hung u v) e = ap key (q ∙ sym u)

    hung_once : Once key (refs p)
    hung_once =
        subst (Once key) (sym c.hung)
        (once_insert key c.front (k ∷ []) c.back (once_outer key c.front c.links c.back past_once)
        ((λ h. h), tt) (λ a b h g e. go a b h g e))
      where
        go : (a b : Node) → a ∈ (c.front ++ c.back) → b ∈ (k ∷ []) → key a ≢ key b
        go a b h (inl q) e = never (before reached (stays root key refs refs' own p k c a h)) (top q) e
        go a b h (inr g) e = g

    entry_once : Once key (refs k)
    entry_once =
        subst (Once key) (sym c.entry)
        (once_join key (own k) c.links (SK.lists k k_mine)
        (once_middle key c.front c.links c.back past_once)
        (λ a b h g e. never (before_link g) (leads (from k key own) k_mine h) (sym e)))

    lists_once : (m : Node) → Without m ⊎ Mine m → Once key (refs m)
    lists_once m (inl r) = go (ℕ_discrete (key m) (key p))
      where
        go : Dec (key m ≡ key p) → Once key (refs m)
        go (yes e) = subst (λ x. Once key (refs x)) (sym (one' r reached e)) hung_once
        go (no e) = subst (Once key) (c.same m e) (S'.lists m r)
    lists_once m (inr r) = go (ℕ_discrete (key m) (key k))
      where
        go : Dec (key m ≡ key k) → Once key (refs m)
        go (yes e) = subst (λ x. Once key (refs x)) (sym (one_k r k_mine e)) entry_once
        go (no e) = subst (Once key) (c.inner m r e) (SK.lists m r)

    no_root : (n : Node) → Before n ⊎ Mine n → key n ≢ key root
    no_root n (inl b) = S'.none b.who n b.there b.holds
    no_root n (inr r) = λ e. parts.apart root n (top refl) r (sym e)

    pub join_owned : Owned (from root key refs)
    join_owned =
        single_owned (from root key refs) with_one
        (record {
          lists = λ m r. lists_once m (parted r);
          parent =
              λ m m' n n' r r' h h' e. same_who m m' n n' (stands m n (parted r) h) (stands m' n' (parted r') h') e;
          none = λ m n r h. no_root n (lies (stands m n (parted r) h));
        })

  -- from the whole
  pub cut_reached : With p → Owned (from root key refs) → (n : Node) → With n ↔ (Without n ⊎ Mine n)
  cut_reached r o =
      join_reached (p_rests root key refs refs' own p k c r o) (cut_parted root key refs refs' own p k c r o)

-- What a file has for itself: its header, its list blocks and its data blocks (`own_file`), no key twice if it is owned
-- once (`file_once`). An empty directory has nothing but itself (`own_empty`). Assumes nothing.
use Prim.Native.Nat.{ℕ, zero, suc, ◌-◌, ◌*◌, ◌<◌}
use mathlib.Core.Path.{◌≡◌, refl, sym, ap, ap₂, ◌∙◌, subst}
use mathlib.Core.Logic.{◌≢◌, ◌⊎◌, inl, inr, ◌↔◌}
use mathlib.Core.Bool.{true, false}
use mathlib.Core.List.{List, [], ◌∷◌, ◌++◌, map, map-append, append-nil}
use native.Mathlib.Omega.{arith}
use Rattle.answers.specs.Tests.{pick}
use Rattle.reach.specs.References.{References, At, ◌∈◌, Uniq, top, ref, Owned}
use Rattle.reach.proofs.Lists.{in_left, in_right, in_either, at_in, in_map, map_in}
use Rattle.volume.specs.declared.disk.Disk.{Disk}
use Rattle.volume.specs.Blocks.{slots, word_of, slot_word, directory}
use Rattle.volume.specs.Files.{keys_here, list_blocks, keys_down, lists_from, keys_from, blocks_of, lists_of, keys_of}
use Rattle.volume.specs.References.{Kind, Ref, to, key_refs, refers_to}
use Rattle.volume.specs.Law.{KeyCount, File}
use Rattle.cut.specs.Cut.{from}
use Rattle.cut.proofs.Lists.{Once, in_three, in_outer, in_middle, once_left, once_apart, once_insert}
use Rattle.cut.proofs.Singles.{leads, Single, owned_single, one_node, Below, next, below_from, below_reached, acyclic}
use Rattle.tree.specs.OwnBlocks.{key_of, own_of, within, Mine, Own}
use Rattle.tree.proofs.Splits.{link_some}
use Rattle.tree.proofs.Cuts.{slots_none}

module _ (s : List ℕ) where
  -- ---- a block that lists keys, n of them still to come, and the q list blocks after it

  abbrev Shape : ℕ → ℕ → ℕ → Type 0
  Shape zero b n = (word_of s b 2 ≡ keys_here n) × (word_of s b 126 ≡ 0)
  Shape (suc q) b n = (word_of s b 2 ≡ keys_here n) × (word_of s b 126 ≢ 0) × Shape q (word_of s b 126) (n - slots)

  file_shape : (q b n : ℕ) → q ≡ list_blocks n
      → ((i x m : ℕ) → m ≡ n - slots * i → At i x (b ∷ lists_from s b q) → KeyCount s x m) → Shape q b n
  unfolding lists_from
  file_shape zero b n e l = let a = l 0 b n (omega arith) refl in (a.count, a.more.1 (omega arith))
  file_shape (suc q) b n e l =
      let a = l 0 b n (omega arith) refl in (
        a.count,
        (λ z. omega (arith, e, a.more.0 z)),
        file_shape q (word_of s b 126) (n - slots) (omega arith)
            (λ i x m f h. l (suc i) x m (omega arith) h),
      )

  -- the data blocks that it lists itself
  abbrev datums : ℕ → ℕ → List Ref
  datums b n = map (to Kind.datum) (keys_down s b 0 (keys_here n))

  -- all list blocks, and all data blocks
  abbrev lists : ℕ → ℕ → List Ref
  lists q b = map (to Kind.list) (lists_from s b q)

  abbrev keys : ℕ → ℕ → ℕ → List Ref
  keys q b n = map (to Kind.datum) (keys_from s n (b ∷ lists_from s b q))

  abbrev rest : ℕ → ℕ → ℕ → List Ref
  rest q b n = lists q b ++ keys q b n

  abbrev after : ℕ → Ref
  after b = to Kind.list (word_of s b 126)

  refs_last : (b n : ℕ) → Shape zero b n → key_refs s b ≡ rest zero b n
  unfolding keys_from lists_from
  refs_last b n h =
      rw (h.0, h.1) (append-nil (datums b n)
      ∙ ap (map (to Kind.datum)) (sym (append-nil (keys_down s b 0 (keys_here n)))))

  refs_more : (q b n : ℕ) → Shape (suc q) b n → key_refs s b ≡ datums b n ++ (after b ∷ [])
  refs_more q b n h =
      ap₂ (λ x l. map (to Kind.datum) (keys_down s b 0 x) ++ l) h.0 (link_some Kind.list (word_of s b 126) h.1)

  rest_more : (q b n : ℕ) → rest (suc q) b n
      ≡ after b ∷ (lists q (word_of s b 126) ++ (datums b n ++ keys q (word_of s b 126) (n - slots)))
  unfolding keys_from lists_from
  rest_more q b n =
      ap (λ l. after b ∷ (lists q (word_of s b 126) ++ l))
      (map-append (to Kind.datum) (keys_down s b 0 (keys_here n))
      (keys_from s (n - slots) (word_of s b 126 ∷ lists_from s (word_of s b 126) q)))

  -- ---- from these blocks nothing else is reached

  rest_closed : (q b n : ℕ) → Shape q b n → (m x : Ref) → (own_of s m ≡ key_refs s b) ⊎ (m ∈ lists q b) → x ∈ own_of s m
      → x ∈ rest q b n
  unfolding lists_from refers_to
  rest_closed zero b n h m x (inl e) g = subst (λ l. x ∈ l) (e ∙ refs_last b n h) g
  rest_closed zero b n h m x (inr a) g = absurd a
  rest_closed (suc q) b n h m x (inl e) g =
      subst (λ l. x ∈ l) (sym (rest_more q b n))
      (go (in_either x (datums b n) (after b ∷ []) (subst (λ l. x ∈ l) (e ∙ refs_more q b n h) g)))
    where
      go : (x ∈ datums b n) ⊎ (x ∈ (after b ∷ []))
          → x ∈ (after b ∷ (lists q (word_of s b 126) ++ (datums b n ++ keys q (word_of s b 126) (n - slots))))
      go (inl a) = inr (in_middle x (lists q (word_of s b 126)) (datums b n) (keys q (word_of s b 126) (n - slots)) a)
      go (inr (inl a)) = inl a
      go (inr (inr a)) = absurd a
  rest_closed (suc q) b n h m x (inr a) g =
      subst (λ l. x ∈ l) (sym (rest_more q b n))
      (inr (in_outer x (lists q (word_of s b 126)) (datums b n) (keys q (word_of s b 126) (n - slots))
      (rest_closed q (word_of s b 126) (n - slots) h.2 m x (go a) g)))
    where
      go : m ∈ (after b ∷ lists q (word_of s b 126))
          → (own_of s m ≡ key_refs s (word_of s b 126)) ⊎ (m ∈ lists q (word_of s b 126))
      go (inl e) = inl (ap (own_of s) e)
      go (inr e) = inr e

  -- ---- all of them are reached from the block B that lists the first keys

  module _ (k : ℕ) where
    abbrev graph : References Ref
    graph = from (to Kind.entry k) key_of (own_of s)

    -- x is referred to by B, or by what lies below it
    record Below-at (B x : Ref) : Type 0 where
      holder : Ref
      at : (holder ≡ B) ⊎ Below graph B holder
      refers : x ∈ own_of s holder

    rest_below : (q b n : ℕ) → Shape q b n → (B : Ref) → own_of s B ≡ key_refs s b → (x : Ref) → x ∈ rest q b n
        → Below-at B x
    unfolding lists_from refers_to
    rest_below zero b n h B e x g =
        record { holder = B; at = inl refl; refers = subst (λ l. x ∈ l) (sym (e ∙ refs_last b n h)) g }
    rest_below (suc q) b n h B e x g =
        first (rest_below q (word_of s b 126) (n - slots) h.2 (after b) refl x)
        (subst (λ l. x ∈ l) (rest_more q b n) g)
      where
        y : ℕ
        y = word_of s b 126

        self : x ∈ (datums b n ++ (after b ∷ [])) → Below-at B x
        self a = record { holder = B; at = inl refl; refers = subst (λ l. x ∈ l) (sym (e ∙ refs_more q b n h)) a }

        linked : after b ∈ own_of s B
        linked =
            subst (λ l. after b ∈ l) (sym (e ∙ refs_more q b n h))
            (in_right (after b) (datums b n) (after b ∷ []) (inl refl))

        down : {m : Ref} → (m ≡ after b) ⊎ Below graph (after b) m → Below graph B m
        down (inl q) = subst (Below graph B) (sym q) (next linked)
        down (inr w) = below_from graph linked w

        later : Below-at (after b) x → Below-at B x
        later w = record { holder = w.holder; at = inr (down w.at); refers = w.refers }

        then : (x ∈ rest q y (n - slots) → Below-at (after b) x) → (x ∈ rest q y (n - slots)) ⊎ (x ∈ datums b n)
            → Below-at B x
        then below (inl a) = later (below a)
        then below (inr a) = self (in_left x (datums b n) (after b ∷ []) a)

        first : (x ∈ rest q y (n - slots) → Below-at (after b) x)
            → x ∈ (after b ∷ (lists q y ++ (datums b n ++ keys q y (n - slots)))) → Below-at B x
        first below (inl a) = self (in_right x (datums b n) (after b ∷ []) (inl a))
        first below (inr a) = then below (in_three x (lists q y) (datums b n) (keys q y (n - slots)) a)

    holder_mine : (B x : Ref) → Mine s k B → (w : Below-at B x) → Mine s k w.holder
    holder_mine B x r w = go w.at
      where
        go : {m : Ref} → (m ≡ B) ⊎ Below graph B m → Mine s k m
        go (inl e) = subst (Mine s k) (sym e) r
        go (inr a) = below_reached graph r a

    -- ---- no key twice

    module _ (owned : Owned graph) where
      single : Single graph
      single = owned_single graph owned

      -- what lies below B has another key than what B refers to itself
      below_apart : (B l x y : Ref) → Mine s k B → l ∈ own_of s B → Below-at l x → y ∈ own_of s B → x.key ≢ y.key
      below_apart B l x y r a w g e =
          let m = holder_mine l x (leads graph r a) w in
          acyclic graph owned r (go (one_node graph owned m r (single.parent w.holder B x y m r w.refers g e))
          w.at)
        where
          go : w.holder ≡ B → (w.holder ≡ l) ⊎ Below graph l w.holder → Below graph B B
          go q (inl f) = next (subst (λ z. z ∈ own_of s B) (sym f ∙ q) a)
          go q (inr f) = below_from graph a (subst (Below graph l) q f)

      rest_once : (q b n : ℕ) → Shape q b n → (B : Ref) → own_of s B ≡ key_refs s b → Mine s k B
          → Once key_of (rest q b n)
      unfolding refers_to
      rest_once zero b n h B e r = subst (Once key_of) (e ∙ refs_last b n h) (single.lists B r)
      rest_once (suc q) b n h B e r =
          subst (Once key_of) (sym (rest_more q b n))
          (joined (rest_once q y (n - slots) h.2 (after b) refl (leads graph r linked)))
        where
          y : ℕ
          y = word_of s b 126

          L : List Ref
          L = lists q y

          K : List Ref
          K = keys q y (n - slots)

          D : List Ref
          D = datums b n

          here : Once key_of (D ++ (after b ∷ []))
          here = subst (Once key_of) (e ∙ refs_more q b n h) (single.lists B r)

          mine : (x : Ref) → x ∈ (D ++ (after b ∷ [])) → x ∈ own_of s B
          mine x a = subst (λ l. x ∈ l) (sym (e ∙ refs_more q b n h)) a

          linked : after b ∈ own_of s B
          linked = mine (after b) (in_right (after b) D (after b ∷ []) (inl refl))

          apart : (x c : Ref) → x ∈ (L ++ K) → c ∈ (D ++ (after b ∷ [])) → x.key ≢ c.key
          apart x c a g =
              below_apart B (after b) x c r linked (rest_below q y (n - slots) h.2 (after b) refl x a) (mine c g)

          joined : Once key_of (L ++ K) → Once key_of (after b ∷ (L ++ (D ++ K)))
          joined ih = (
            fresh,
            once_insert key_of L D K ih (once_left key_of D (after b ∷ []) here)
                (λ x c a g. apart x c a (in_left c D (after b ∷ []) g)),
          )
            where
              other : (x : Ref) → (x ∈ (L ++ K)) ⊎ (x ∈ D) → x.key ≢ y
              other x (inl a) = apart x (after b) a (in_right (after b) D (after b ∷ []) (inl refl))
              other x (inr a) = once_apart key_of D (after b ∷ []) here x (after b) a (inl refl)

              fresh : ¬ (y ∈ map key_of (L ++ (D ++ K)))
              fresh m =
                  let w = map_in key_of y (L ++ (D ++ K)) m in other w.0 (in_three w.0 L D K w.1) (sym w.2)

-- ---- a file

module _ (d : Disk) (s : List ℕ) (h : ℕ) (e : directory s h ≡ false) (f : File d s h) where
  abbrev N : ℕ
  N = blocks_of d s h

  abbrev Q : ℕ
  Q = list_blocks N

  abbrev header : Ref
  header = to Kind.entry h

  shape : Shape s Q h N
  shape = file_shape s Q h N refl (λ i x m z a. rw z (f.counts i x a))

  header_refs : own_of s header ≡ key_refs s h
  unfolding pick
  header_refs = rw e refl

  -- all that is reached from the header
  mine_rest : {r : Ref} → Mine s h r → (r ≡ header) ⊎ (r ∈ rest s Q h N)
  unfolding refers_to
  mine_rest (top q) = inl q
  mine_rest (ref {m = m} {n = x} i r g) = inr (go (mine_rest r))
    where
      at : x ∈ own_of s m
      at = at_in x i (own_of s m) g

      listed : (m ∈ lists s Q h) ⊎ (m ∈ keys s Q h N) → x ∈ rest s Q h N
      listed (inl a) = rest_closed s Q h N shape m x (inr a) at
      listed (inr a) =
          let w = map_in (to Kind.datum) m (keys_of d s h) a in absurd (subst (λ y. x ∈ own_of s y) w.2 at)

      go : (m ≡ header) ⊎ (m ∈ rest s Q h N) → x ∈ rest s Q h N
      go (inl q) = rest_closed s Q h N shape m x (inl (ap (own_of s) q ∙ header_refs)) at
      go (inr a) = listed (in_either m (lists s Q h) (keys s Q h N) a)

  rest_mine : (x : Ref) → x ∈ rest s Q h N → (m : Ref) × Mine s h m × (x ∈ own_of s m)
  rest_mine x a =
      let w = rest_below s h Q h N shape header header_refs x a in
      (w.holder, holder_mine s h header x (top refl) w, w.refers)

  rest_keys : map key_of (rest s Q h N) ≡ lists_of d s h ++ keys_of d s h
  rest_keys =
      map-append key_of (lists s Q h) (keys s Q h N)
      ∙ ap₂ (λ x y. x ++ y) (plain Kind.list (lists_of d s h)) (plain Kind.datum (keys_of d s h))
    where
      plain : (a : Kind) (ks : List ℕ) → map key_of (map (to a) ks) ≡ ks
      plain a [] = refl
      plain a (k ∷ ks) = ap (λ l. k ∷ l) (plain a ks)

  pub own_file : (j : ℕ) → Own s h j ↔ (j ∈ (h ∷ (lists_of d s h ++ keys_of d s h)))
  own_file j = ((λ o. there o.0 o.2 (mine_rest o.1)), back)
    where
      there : (r : Ref) → r.key ≡ j → (r ≡ header) ⊎ (r ∈ rest s Q h N) → j ∈ (h ∷ (lists_of d s h ++ keys_of d s h))
      there r q (inl a) = inl (sym q ∙ ap key_of a)
      there r q (inr a) =
          inr (subst (λ x. x ∈ (lists_of d s h ++ keys_of d s h)) q
          (subst (λ l. r.key ∈ l) rest_keys (in_map key_of r (rest s Q h N) a)))

      back : j ∈ (h ∷ (lists_of d s h ++ keys_of d s h)) → Own s h j
      back (inl q) = (header, top refl, sym q)
      back (inr a) =
          let w = map_in key_of j (rest s Q h N) (subst (λ l. j ∈ l) (sym rest_keys) a) in
          let m = rest_mine w.0 w.1 in
          (w.0, leads (graph s h) m.1 m.2, sym w.2)

  pub file_once : Owned (from (to Kind.entry h) key_of (own_of s)) → Uniq (h ∷ (lists_of d s h ++ keys_of d s h))
  file_once owned = (fresh, subst Uniq rest_keys (rest_once s h owned Q h N shape header header_refs (top refl)))
    where
      fresh : ¬ (h ∈ (lists_of d s h ++ keys_of d s h))
      fresh a =
          let w = map_in key_of h (rest s Q h N) (subst (λ l. h ∈ l) (sym rest_keys) a) in
          let m = rest_mine w.0 w.1 in
          (owned_single (graph s h) owned).none m.0 w.0 m.1 m.2 (sym w.2)

-- ---- an empty directory

pub own_empty : (s : List ℕ) (k : ℕ) → directory s k ≡ true → ((i : ℕ) → i < slots → slot_word s k i ≡ 0) → (j : ℕ)
    → Own s k j ↔ (j ≡ k)
unfolding pick
own_empty s k e z j = ((λ o. sym o.2 ∙ ap key_of (alone o.1)), (λ q. (to Kind.entry k, top refl, sym q)))
  where
    none : within s k ≡ []
    none = rw e (slots_none s k 0 slots (λ i a b. z i (omega arith)))

    alone : {r : Ref} → Mine s k r → r ≡ to Kind.entry k
    alone (top q) = q
    alone (ref {m = m} {n = n} i r h) = absurd (subst (At i n) (ap (own_of s) (alone r) ∙ none) h)

-- Where one pointer is moved on to the entry's successor, the entry is cut out of the references (`repointed_cut`).
-- Assumes nothing.
use Prim.Native.Nat.{ℕ, zero, suc, ◌+◌, ◌-◌, ◌<◌, ◌≤◌}
use mathlib.Core.Path.{◌≡◌, refl, sym, ap, ap₂, ◌∙◌, subst}
use mathlib.Core.Logic.{◌≢◌, ◌⊎◌, inl, inr}
use mathlib.Core.Bool.{Bool, true, false}
use mathlib.Core.List.{List, [], ◌∷◌, ◌++◌, map, append-nil}
use native.Mathlib.Omega.{arith}
use Rattle.answers.specs.Tests.{pick}
use Rattle.reach.specs.References.{◌∈◌, top, ref}
use Rattle.reach.proofs.Lists.{in_either, at_in, map_in}
use Rattle.volume.specs.declared.disk.Disk.{Disk}
use Rattle.volume.specs.Disks.{root_of}
use Rattle.volume.specs.Blocks.{slots, word_of, slot_word, directory}
use Rattle.volume.specs.Files.{keys_down}
use Rattle.volume.specs.References.{Kind, Ref, to, link, slot_refs, key_refs, refers_to}
use Rattle.cut.specs.Cut.{Cut}
use Rattle.writes.proofs.Alike.{alike_word}
use Rattle.tree.specs.OwnBlocks.{refs_of, key_of, within, own_to, own_of, Mine}
use Rattle.tree.specs.Pointers.{Points, in_root, in_directory, in_chain, Leaf, Pointer, Repointed}
use Rattle.tree.proofs.Refers.{slots_alike, keys_alike, refers_same}
use Rattle.tree.proofs.Splits.{link_some, slots_around, slots_repointed, three_more}

-- ---- what an entry has for itself, where it is a leaf

-- no chain goes on from a list block or a data block
abbrev pub Bare : Kind → Type 0
Bare Kind.root = ⊥
Bare Kind.bitmap = ⊥
Bare Kind.entry = ⊥
Bare Kind.list = Unit {0}
Bare Kind.datum = Unit {0}

in_link : (a : Kind) (k : ℕ) (r : Ref) → r ∈ link a k → r.kind ≡ a
in_link a zero r h = absurd h
in_link a (suc k) r (inl e) = ap (λ x. x.kind) e
in_link a (suc k) r (inr h) = absurd h

module _ (s : List ℕ) where
  listed_bare : (k : ℕ) (r : Ref) → r ∈ key_refs s k → Bare r.kind
  listed_bare k r h =
      go (in_either r (map (to Kind.datum) (keys_down s k 0 (word_of s k 2))) (link Kind.list (word_of s k 126)) h)
    where
      go : (r ∈ map (to Kind.datum) (keys_down s k 0 (word_of s k 2))) ⊎ (r ∈ link Kind.list (word_of s k 126))
          → Bare r.kind
      go (inl m) =
          let w = map_in (to Kind.datum) r (keys_down s k 0 (word_of s k 2)) m in
          subst (λ x. Bare x.kind) (sym w.2) tt
      go (inr m) = subst Bare (sym (in_link Kind.list (word_of s k 126) r m)) tt

  pub slots_none : (k i n : ℕ) → ((j : ℕ) → i ≤ j → j < i + n → slot_word s k j ≡ 0) → slot_refs s k i n ≡ []
  unfolding slot_refs
  slots_none k i zero h = refl
  slots_none k i (suc n) h =
      rw (h i (omega arith) (omega arith)) (slots_none k (suc i) n (λ j p q. h j (omega arith) (omega arith)))

  leaf_bare : (k : ℕ) → Leaf s k → (r : Ref) → r ∈ within s k → Bare r.kind
  unfolding pick
  leaf_bare k (inl e) r h = listed_bare k r (rw e at h)
  leaf_bare k (inr e) r h = absurd (rw (slots_none k 0 slots (λ j p q. e.1 j (omega arith))) at (rw e.0 at h))

  bare_own : (r : Ref) → Bare r.kind → own_of s r ≡ refs_of s r
  bare_own r h = go r.kind h
    where
      go : (a : Kind) → Bare a → own_to s a r.key ≡ refers_to s a r.key
      go Kind.root h = absurd h
      go Kind.bitmap h = absurd h
      go Kind.entry h = absurd h
      go Kind.list h = refl
      go Kind.datum h = refl

  -- a list block or a data block leads to no other kind
  bare_next : (r y : Ref) → Bare r.kind → y ∈ own_of s r → Bare y.kind
  unfolding refers_to
  bare_next r y h m = go r.kind h m
    where
      go : (a : Kind) → Bare a → y ∈ own_to s a r.key → Bare y.kind
      go Kind.root h m = absurd h
      go Kind.bitmap h m = absurd h
      go Kind.entry h m = absurd h
      go Kind.list h m = listed_bare r.key y m
      go Kind.datum h m = absurd m

  module _ (k : ℕ) (leaf : Leaf s k) where
    leaf_next : (m n : Ref) → (m ≡ to Kind.entry k) ⊎ Bare m.kind → n ∈ own_of s m → Bare n.kind
    leaf_next m n (inl e) g = leaf_bare k leaf n (subst (λ x. n ∈ own_of s x) e g)
    leaf_next m n (inr b) g = bare_next m n b g

    pub leaf_mine : {r : Ref} → Mine s k r → (r ≡ to Kind.entry k) ⊎ Bare r.kind
    leaf_mine (top e) = inl e
    leaf_mine (ref {m = m} {n = n} i r h) = inr (leaf_next m n (leaf_mine r) (at_in n i (own_of s m) h))

    -- what is referred to from there is no entry
    pub leaf_refers : (m n : Ref) → Mine s k m → n ∈ own_of s m → Bare n.kind
    leaf_refers m n r g = leaf_next m n (leaf_mine r) g

    leaf_inner : (r : Ref) → Mine s k r → r.key ≢ k → own_of s r ≡ refs_of s r
    leaf_inner r h n = go (leaf_mine h)
      where
        go : (r ≡ to Kind.entry k) ⊎ Bare r.kind → own_of s r ≡ refs_of s r
        go (inl e) = absurd (n (ap key_of e))
        go (inr b) = bare_own r b

-- ---- the pointer

-- the other words of its block
pub word_else : (s t : List ℕ) (p w v : ℕ) → Repointed s t p w v → (j : ℕ) → j < 128 → j ≢ 5 → j ≢ w
    → word_of t p j ≡ word_of s p j
word_else s t p w v c j l a b = alike_word (Pointer w) s t p c.rest j l no
  where
    no : ¬ (Pointer w j)
    no (inl e) = a e
    no (inr e) = b e

-- word w of p points to k in s and to k's successor in t; if p is a file, it counts at most 72 keys
module _ (d : Disk) (s t : List ℕ) (p : Ref) (w k : ℕ)
    (few : (x : ℕ) → p ≡ to Kind.entry x → directory s x ≡ false → word_of s x 2 ≤ slots)
    (points : word_of s p.key w ≡ k)
    (some : k ≢ 0) (c : Repointed s t p.key w (word_of s k 124)) where
  abbrev P : ℕ
  P = p.key

  other_word : (j : ℕ) → j < 128 → j ≢ 5 → j ≢ w → word_of t P j ≡ word_of s P j
  other_word = word_else s t P w (word_of s k 124) c

  abbrev links : List Ref
  links = link Kind.entry (word_of s k 124)

  -- what p refers to, before the pointer and behind it
  record Around : Type 0 where
    front : List Ref
    back : List Ref
    hung : refs_of s p ≡ front ++ (to Kind.entry k ∷ back)
    past : refs_of t p ≡ front ++ (links ++ back)

  -- a slot
  module _ (i : ℕ) (l : i < slots) (e : w ≡ 6 + i) where
    abbrev x : ℕ
    x = p.key

    slots_hung : slot_refs s x 0 slots ≡ slot_refs s x 0 i ++ (to Kind.entry k ∷ slot_refs s x (suc i) (71 - i))
    slots_hung =
        let q : slot_word s x i ≡ k = subst (λ y. word_of s x y ≡ k) e points in
        slots_around s x i l ∙ ap (λ a. slot_refs s x 0 i ++ (a ++ slot_refs s x (suc i) (71 - i)))
        (ap (link Kind.entry) q ∙ link_some Kind.entry k some)

    slots_past : slot_refs t x 0 slots ≡ slot_refs s x 0 i ++ (links ++ slot_refs s x (suc i) (71 - i))
    slots_past =
        let q : slot_word t x i ≡ word_of s k 124 = subst (λ y. word_of t x y ≡ word_of s k 124) e c.now in
        slots_repointed s t x i l (λ j a b. other_word (6 + j) (omega arith) (omega arith) (omega arith))
        ∙ ap (λ a. slot_refs s x 0 i ++ (link Kind.entry a ++ slot_refs s x (suc i) (71 - i))) q

  -- p by its kind
  root_refs : (u : List ℕ) → p ≡ to Kind.root (root_of d)
      → refs_of u p ≡ to Kind.bitmap (word_of u p.key 79) ∷ slot_refs u p.key 0 slots
  unfolding refers_to
  root_refs u e = ap (λ a. refers_to u a p.key) (ap (λ r. r.kind) e)

  entry_refs : (u : List ℕ) (x : ℕ) → p ≡ to Kind.entry x
      → refs_of u p ≡ within u p.key ++ link Kind.entry (word_of u p.key 124)
  unfolding refers_to
  entry_refs u x e = ap (λ a. refers_to u a p.key) (ap (λ r. r.kind) e)

  root_around : (i : ℕ) → i < slots → p ≡ to Kind.root (root_of d) → w ≡ 6 + i → Around
  root_around i l e f =
      let m = to Kind.bitmap (word_of s p.key 79) in
      record {
        front = m ∷ slot_refs s p.key 0 i;
        back = slot_refs s p.key (suc i) (71 - i);
        hung = root_refs s e ∙ ap (λ a. m ∷ a) (slots_hung i l f);
        past =
            root_refs t e ∙ ap₂ (λ a b. to Kind.bitmap a ∷ b) (other_word 79 (omega arith) (omega arith) (omega arith))
            (slots_past i l f);
      }

  -- the kind of an entry stays: w127 is no pointer
  kind_stays : w ≢ 127 → directory t p.key ≡ directory s p.key
  kind_stays n = rw (other_word 127 (omega arith) (omega arith) (omega arith)) refl

  within_directory : (u : List ℕ) (x : ℕ) → directory u x ≡ true → within u x ≡ slot_refs u x 0 slots
  unfolding pick
  within_directory u x e = rw e refl

  directory_around : (x i : ℕ) → i < slots → p ≡ to Kind.entry x → directory s x ≡ true → w ≡ 6 + i → Around
  directory_around x i l e g f =
      let y = p.key in
      let more = link Kind.entry (word_of s y 124) in
      let a : directory s y ≡ true = ap (λ r. directory s r.key) e ∙ g in
      let b : directory t y ≡ true = kind_stays (omega arith) ∙ a in
      record {
        front = slot_refs s y 0 i;
        back = slot_refs s y (suc i) (71 - i) ++ more;
        hung =
            entry_refs s x e ∙ ap (λ l. l ++ more) (within_directory s y a ∙ slots_hung i l f)
            ∙ three_more (slot_refs s y 0 i) (to Kind.entry k ∷ []) (slot_refs s y (suc i) (71 - i)) more;
        past =
            entry_refs t x e ∙ ap₂ (λ l m. l ++ link Kind.entry m) (within_directory t y b ∙ slots_past i l f)
            (other_word 124 (omega arith) (omega arith) (omega arith))
            ∙ three_more (slot_refs s y 0 i) links (slot_refs s y (suc i) (71 - i)) more;
      }

  within_stays : (x : ℕ) → p ≡ to Kind.entry x → w ≡ 124 → within t p.key ≡ within s p.key
  unfolding pick
  within_stays x e f = go (directory s y) refl
    where
      y : ℕ
      y = p.key

      keys_stay : word_of s y 2 ≤ slots → keys_down t y 0 (word_of s y 2) ≡ keys_down s y 0 (word_of s y 2)
      keys_stay l =
          keys_alike s t y 0 (word_of s y 2) (λ j a b. other_word (77 - j) (omega arith) (omega arith) (omega arith))

      go : (b : Bool) → directory s y ≡ b
          → pick (directory t y) (slot_refs t y 0 slots) (key_refs t y)
          ≡ pick (directory s y) (slot_refs s y 0 slots) (key_refs s y)
      go true g =
          rw (kind_stays (omega arith), g)
          (slots_alike s t y 0 slots (λ j a b. other_word (6 + j) (omega arith) (omega arith) (omega arith)))
      go false g =
          let q : word_of s y 2 ≤ slots =
          subst (λ r. word_of s r.key 2 ≤ slots) (sym e) (few x e (ap (λ r. directory s r.key) (sym e) ∙ g)) in
          rw (
            kind_stays (omega arith),
            g,
            other_word 2 (omega arith) (omega arith) (omega arith),
            other_word 126
                (omega arith) (omega arith) (omega arith),
            keys_stay q,
          ) refl

  chain_around : (x : ℕ) → p ≡ to Kind.entry x → w ≡ 124 → Around
  chain_around x e f =
      let y = p.key in
      let a : word_of s y 124 ≡ k = subst (λ j. word_of s y j ≡ k) f points in
      let b : word_of t y 124 ≡ word_of s k 124 = subst (λ j. word_of t y j ≡ word_of s k 124) f c.now in
      record {
        front = within s y;
        back = [];
        hung = entry_refs s x e ∙ ap (λ m. within s y ++ m) (ap (link Kind.entry) a ∙ link_some Kind.entry k some);
        past =
            entry_refs t x e ∙ ap₂ (λ l m. l ++ m) (within_stays x e f)
            (ap (link Kind.entry) b ∙ sym (append-nil links));
      }

  around : Points d s p w → Around
  around (in_root i l e f) = root_around i l e f
  around (in_directory x i l e g f) = directory_around x i l e g f
  around (in_chain x e f) = chain_around x e f

  -- The references of s and t are those with the entry k and without it.
  pub repointed_cut : Points d s p w → Leaf s k
      → Cut (to Kind.root (root_of d)) key_of (refs_of s) (refs_of t) (own_of s) p (to Kind.entry k)
  unfolding refers_to
  repointed_cut at leaf =
      let a = around at in
      record {
        front = a.front;
        back = a.back;
        links = links;
        hung = a.hung;
        past = a.past;
        entry = refl;
        same = λ n h. refers_same s t n.key (c.others n.key h) n.kind;
        inner = leaf_inner s k leaf;
      }

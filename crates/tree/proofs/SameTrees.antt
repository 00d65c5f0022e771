-- Two images with the same tree reach the same by the same references (`same_reached`), and if the one is a tree, so
-- is the other, once the sums of its root and its bitmap block are right (`same_tree`). Assumes nothing.
use Prim.Native.Nat.{ℕ, zero, suc, ◌+◌, ◌<◌}
use mathlib.Core.Path.{◌≡◌, refl, sym, ap, ◌∙◌, subst}
use mathlib.Core.Logic.{◌≢◌, inl, inr, ◌↔◌}
use mathlib.Core.Bool.{true}
use mathlib.Core.List.{List}
use native.Mathlib.Omega.{arith}
use native.Mathlib.Decide.{ℕ_discrete}
use Rattle.reach.specs.References.{Reached, top, ref}
use Rattle.volume.specs.declared.disk.Disk.{Disk}
use Rattle.volume.specs.Disks.{root_of}
use Rattle.volume.specs.Blocks.{slots, word_of, sum_of, slot_word}
use Rattle.volume.specs.References.{Kind, Ref, to, refers_to, references}
use Rattle.volume.specs.Law.{chain_key, Hangs, Tree, bitmap_key_of, summed}
use Rattle.walk.proofs.Chains.{chain_next, chain_before}
use Rattle.walk.proofs.Positions.{Holder, from_chain, referred}
use Rattle.cut.proofs.Singles.{one_node}
use Rattle.cut.proofs.Agreeing.{agree_to, agree_from, agree_owned}
use Rattle.writes.specs.Alike.{SameBlock}
use Rattle.writes.proofs.Alike.{alike_word, same_sum}
use Rattle.tree.specs.OwnBlocks.{refs_of, key_of}
use Rattle.tree.specs.Links.{RootLinks}
use Rattle.tree.specs.SameTree.{Mark, SameTree}
use Rattle.tree.proofs.Refers.{slots_alike, same_word, refers_same}
use Rattle.tree.proofs.Carrying.{Carries, tree_carried}

-- no block has two kinds: what an entry, a list block or a data block is called, the root and the bitmap block are not
abbrev pub Held : Kind → Type 0
Held Kind.root = ⊥
Held Kind.bitmap = ⊥
Held Kind.entry = Unit {0}
Held Kind.list = Unit {0}
Held Kind.datum = Unit {0}

module _ (d : Disk) (s : List ℕ) (v : Tree d s) where
  abbrev B : Ref → Type 0
  B r = Reached (references d s) r

  abbrev top_ref : Ref
  top_ref = to Kind.root (root_of d)

  abbrev map_ref : Ref
  map_ref = to Kind.bitmap (bitmap_key_of d s)

  pub map_reached : B map_ref
  unfolding refers_to
  map_reached = ref 0 (top {n = top_ref} refl) refl

  one : {m n : Ref} → B m → B n → m.key ≡ n.key → m ≡ n
  one = one_node (references d s) v.owned

  pub not_root : (r : Ref) → B r → Held r.kind → r.key ≢ root_of d
  not_root r h w e = subst Held (ap (λ x. x.kind) (one h (top {n = top_ref} refl) e)) w

  pub not_map : (r : Ref) → B r → Held r.kind → r.key ≢ bitmap_key_of d s
  not_map r h w e = subst Held (ap (λ x. x.kind) (one h map_reached e)) w

  -- a reached block is the root, the bitmap block, or any other
  pub data Which (r : Ref) : Type 0 where
    is_root_lem : r ≡ top_ref → Which r
    is_map : r ≡ map_ref → Which r
    other : r.key ≢ root_of d → r.key ≢ bitmap_key_of d s → Which r

  pub which : (r : Ref) → B r → Which r
  which r h = go (ℕ_discrete r.key (root_of d)) (ℕ_discrete r.key (bitmap_key_of d s))
    where
      go : Dec (r.key ≡ root_of d) → Dec (r.key ≡ bitmap_key_of d s) → Which r
      go (yes e) q = is_root_lem (one h (top {n = top_ref} refl) e)
      go (no e) (yes q) = is_map (one h map_reached q)
      go (no e) (no q) = other e q

  module _ (t : List ℕ) (a : SameTree d s t) where
    pub root_word : (j : ℕ) → j < 128 → j ≢ 5 → j ≢ 78 → word_of t (root_of d) j ≡ word_of s (root_of d) j
    root_word j l p q = alike_word Mark s t (root_of d) a.root j l no
      where
        no : ¬ (Mark j)
        no (inl e) = p e
        no (inr e) = q e

    pub map_same : bitmap_key_of d t ≡ bitmap_key_of d s
    map_same = root_word 79 (omega arith) (omega arith) (omega arith)

    root_slot : (i : ℕ) → i < slots → slot_word t (root_of d) i ≡ slot_word s (root_of d) i
    root_slot i l = root_word (6 + i) (omega arith) (omega arith) (omega arith)

    pub refs_same : (r : Ref) → B r → refs_of t r ≡ refs_of s r
    unfolding refers_to
    refs_same r h = go (which r h)
      where
        root_same : refers_to t Kind.root (root_of d) ≡ refers_to s Kind.root (root_of d)
        root_same = rw (map_same, slots_alike s t (root_of d) 0 slots (λ j p q. root_slot j (omega arith))) refl

        go : Which r → refs_of t r ≡ refs_of s r
        go (is_root_lem e) = subst (λ x. refs_of t x ≡ refs_of s x) (sym e) root_same
        go (is_map e) = subst (λ x. refs_of t x ≡ refs_of s x) (sym e) refl
        go (other p q) = refers_same s t r.key (a.blocks r h p q) r.kind

    pub same_reached : (r : Ref) → Reached (references d s) r ↔ Reached (references d t) r
    same_reached r = (
      agree_to top_ref key_of (refs_of s) (refs_of t) refs_same,
      agree_from top_ref key_of (refs_of s) (refs_of t)
          refs_same,
    )

    -- an entry, a list block, a data block
    held_same : (r : Ref) → Reached (references d t) r → Held r.kind → SameBlock s t r.key
    held_same r h w = let b = (same_reached r).1 h in a.blocks r b (not_root r b w) (not_map r b w)

    -- ---- chains

    module _ (x i : ℕ) (o : Holder d t x) (l : i < slots) where
      head_same : slot_word t x i ≡ slot_word s x i
      head_same = go o
        where
          go : Holder d t x → slot_word t x i ≡ slot_word s x i
          go (inl e) = rw e (root_slot i l)
          go (inr w) = same_word s t x (held_same (to Kind.entry x) w.0 tt) (6 + i) (omega arith)

      chain_same : (p : ℕ) → chain_key t (slot_word t x i) p ≢ 0
          → chain_key t (slot_word t x i) p ≡ chain_key s (slot_word s x i) p
      unfolding chain_key
      chain_same zero h = head_same
      chain_same (suc p) h =
          let z = chain_before t (slot_word t x i) p h in
          let y = chain_key t (slot_word t x i) p in
          let e = chain_same p z in
          let r = referred d t y (from_chain d t x i o l p z) in
          chain_next t (slot_word t x i) p z
          ∙ same_word s t y (held_same (to Kind.entry y) r tt) 124 (omega arith)
          ∙ ap (λ k. word_of s k 124) e
          ∙ sym (chain_next s (slot_word s x i) p (λ q. z (e ∙ q)))

    hangs_same : (x i k : ℕ) → Holder d t x → Hangs t x i k → Hangs s x i k
    hangs_same x i k o g =
        record {
          slot = g.slot;
          position = g.position;
          there = sym (chain_same x i o g.slot g.position (λ z. g.some (sym g.there ∙ z))) ∙ g.there;
          some = g.some;
        }

    -- ---- the tree

    module _ (root-sum : sum_of t (root_of d) ≡ 0) (map-sum : sum_of t (bitmap_key_of d s) ≡ 0) where
      carries : Carries d s t
      carries =
          record {
            long = a.long;
            tag = a.tag;
            reached = λ r h. (same_reached r).1 h;
            sums = sums';
            root = λ i l n. a.root i l (λ m. n (marked m));
            entries = λ k h i l _. held_same (to Kind.entry k) h tt i l (λ z. z);
            lists = λ k h. held_same (to Kind.list k) h tt;
            datums = λ k h. held_same (to Kind.datum k) h tt;
            hangs = hangs_same;
            owned = agree_owned top_ref key_of (refs_of s) (refs_of t) refs_same v.owned;
          }
        where
          marked : {j : ℕ} → Mark j → RootLinks j
          marked (inl e) = inl e
          marked (inr e) = inr (inl e)

          sums' : (r : Ref) → Reached (references d t) r → summed d r.kind ≡ true → sum_of t r.key ≡ 0
          sums' r h o = let b = (same_reached r).1 h in go b (which r b)
            where
              go : B r → Which r → sum_of t r.key ≡ 0
              go b (is_root_lem e) = rw e root-sum
              go b (is_map e) = rw e map-sum
              go b (other p q) = same_sum s t r.key (a.blocks r b p q) ∙ v.sums r b o

      pub same_tree : Tree d t
      same_tree = tree_carried d s t v carries

    -- ---- the other way round

    pub same_sym : SameTree d t s
    same_sym =
        record {
          long = sym a.long;
          tag = sym a.tag;
          root = λ i l n. sym (a.root i l n);
          blocks = λ r h p q i l n. sym (a.blocks r ((same_reached r).1 h) p (λ e. q (e ∙ sym map_same)) i l n);
        }

  pub same_trans : (t u : List ℕ) → SameTree d s t → SameTree d t u → SameTree d s u
  same_trans t u a b =
      record {
        long = b.long ∙ a.long;
        tag = b.tag ∙ a.tag;
        root = λ i l n. b.root i l n ∙ a.root i l n;
        blocks =
            λ r h p q i l n. b.blocks r ((same_reached t a r).0 h) p (λ e. q (e ∙ map_same t a)) i l n
            ∙ a.blocks r h p q i l n;
      }

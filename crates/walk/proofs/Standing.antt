-- What the walk meets by way of nodes that pass: its block is reached, and its context says where it stands
-- (`Stood`). Assumes nothing.
use Prim.Native.Nat.{ℕ, zero, suc, ◌+◌, ◌-◌, ◌*◌, ◌<◌, ◌≤◌}
use mathlib.Core.Path.{◌≡◌, refl, sym, ap, ◌∙◌, subst}
use mathlib.Core.Logic.{◌≢◌, ◌⊎◌, inl, inr}
use mathlib.Core.Bool.{Bool, true, false}
use mathlib.Core.List.{List, [], ◌∷◌, ◌++◌, append_assoc}
use native.Mathlib.Omega.{arith}
use lib.ListN.{length, length-append}
use Rattle.reach.specs.References.{At, ◌∈◌, Reached, top, ref}
use Rattle.reach.specs.Law.{pruned}
use Rattle.reach.proofs.Lists.{at_in, at_map, in_either}
use Rattle.reach.proofs.Pruned.{pruned_at}
use Rattle.volume.specs.declared.disk.Disk.{Disk}
use Rattle.volume.specs.Disks.{root_of}
use Rattle.volume.specs.Blocks.{slots, word_of, slot_word, key_word, directory}
use Rattle.volume.specs.Files.{keys_down, keys_from, lists_from, keys_here, list_blocks, blocks_of, lists_of, keys_of}
use Rattle.volume.specs.References.{Kind, to, references}
use Rattle.volume.specs.Law.{chain_key, KeyCount}
use Rattle.volume.specs.Breaks.{IsData}
use Rattle.volume.proofs.Keys.{down_at, down_long}
use Rattle.volume.proofs.Passes.{entry_passed, file_passed, list_passed}
use Rattle.walk.specs.Nodes.{Node, root, bitmap, entry, list, datum, key_of, bare, chained, slot_nodes, before}
use Rattle.walk.specs.Nodes.{key_nodes, list_link, key_block_nodes, contents, leads_to, key_fault, fault_of, graph}
use Rattle.walk.specs.Refusals.{Holder, FileAt}
use Rattle.walk.proofs.Lists.{at_left, at_right, at_end}
use Rattle.walk.proofs.Nodes.{in_linked, in_slots}
use Rattle.walk.proofs.Passes.{file_kind_lem, in_tree, hung_passed}
use Rattle.walk.proofs.Accepts.{refs_bare}
use Rattle.walk.proofs.Chains.{chain_next}

lists_after : (s : List ℕ) (b q : ℕ) → lists_from s b (suc q) ≡ word_of s b 126 ∷ lists_from s (word_of s b 126) q
unfolding lists_from
lists_after s b q = refl

module _ (d : Disk) (s : List ℕ) where
  -- ---- where a node stands

  -- block b lists keys of file h, after m of its data blocks; c is the last of these, or the header
  pub record Tail (h b m c : ℕ) : Type 0 where
    pub lists : List ℕ
    pub split : h ∷ lists_of d s h ≡ lists ++ (b ∷ lists_from s b (list_blocks (blocks_of d s h - m)))
    pub passed : m ≡ slots * length lists
    pub keys : List ℕ
    pub keyed : keys_of d s h ≡ keys
        ++ keys_from s (blocks_of d s h - m) (b ∷ lists_from s b (list_blocks (blocks_of d s h - m)))
    pub long : length keys ≡ m
    pub last : At m c (h ∷ keys_of d s h)

  -- so it is list block n of the file, if it comes after the header and n list blocks
  pub tail_at : (h b m c n : ℕ) → m ≡ slots * suc n → Tail h b m c → At n b (lists_of d s h)
  tail_at h b m c n e t =
      let l : length t.lists ≡ suc n = omega (arith, t.passed) in
      let a = at_end b t.lists (b ∷ lists_from s b (list_blocks (blocks_of d s h - m))) refl in
      subst (λ i. At i b (h ∷ lists_of d s h)) l (subst (At (length t.lists) b) (sym t.split) a)

  -- data block number n of file h, from 1; c is the one before, or the header
  pub record InFile (h n k c : ℕ) : Type 0 where
    pub index : ℕ
    pub number : n ≡ suc index
    pub is : IsData d s h index k c

  abbrev pub Stood : Node → Type 0
  Stood root = Unit {0}
  Stood (bitmap k) = k ≡ word_of s (root_of d) 79
  Stood (entry k t i p) = Holder d s t × (i < slots) × (chain_key s (slot_word s t i) p ≡ k) × (k ≢ 0)
  Stood (list k h m c) = FileAt d s h × ((n : ℕ) × (m ≡ slots * suc n)) × Tail h k m c
  Stood (datum k h n c) = FileAt d s h × InFile h n k c

  -- ---- from a block that lists keys to what it lists

  header_tail : (h : ℕ) → Tail h h 0 h
  header_tail h =
      let e : blocks_of d s h ≡ blocks_of d s h - 0 = omega arith in
      record {
        lists = [];
        split = ap (λ n. h ∷ lists_from s h (list_blocks n)) e;
        passed = omega arith;
        keys = [];
        keyed = ap (λ n. keys_from s n (h ∷ lists_from s h (list_blocks n))) e;
        long = refl;
        last = refl;
      }

  module _ (h b m c : ℕ) (file : FileAt d s h) (t : Tail h b m c) (l : KeyCount s b (blocks_of d s h - m)) where
    abbrev n : ℕ
    n = keys_here (blocks_of d s h - m)

    abbrev blocks_after : List ℕ
    blocks_after = lists_from s b (list_blocks (blocks_of d s h - m))

    split : keys_of d s h ≡ t.keys ++ (keys_down s b 0 n ++ keys_from s (blocks_of d s h - m - slots) blocks_after)
    unfolding keys_from
    split = t.keyed

    key_at : (i : ℕ) → i < n → At (m + i) (key_word s b i) (keys_of d s h)
    key_at i g =
        let a =
        at_left (key_word s b i) i (keys_down s b 0 n) (keys_from s (blocks_of d s h - m - slots) blocks_after)
        (down_at s b 0 n i i (omega arith) g) in
        subst (At (m + i) (key_word s b i)) (sym split)
        (at_right (key_word s b i) (m + i) i t.keys _ (omega (arith, t.long)) a)

    before_at : (i : ℕ) → i < suc n → At (m + i) (before s b c i) (h ∷ keys_of d s h)
    before_at zero g = let e : m + 0 ≡ m = omega arith in subst (λ x. At x c (h ∷ keys_of d s h)) (sym e) t.last
    before_at (suc i) g =
        let e : m + suc i ≡ suc (m + i) = omega arith in
        subst (λ x. At x (key_word s b i) (h ∷ keys_of d s h)) (sym e) (key_at i (omega arith))

    keys_stood : (i r : ℕ) → i + r ≡ n → (x : Node) → x ∈ key_nodes s h b m c i r → Stood x
    unfolding key_nodes
    keys_stood i zero e x a = absurd a
    keys_stood i (suc r) e x (inl q) =
        subst Stood (sym q) (
          file,
          record {
            index = m + i;
            number = refl;
            is = record { here = key_at i (omega arith); before = before_at i (omega arith) };
          },
        )
    keys_stood i (suc r) e x (inr a) = keys_stood (suc i) r (omega arith) x a

    -- the list block after b
    next_stood : word_of s b 126 ≢ 0 → Stood (list (word_of s b 126) h (m + n) (before s b c n))
    next_stood w = (file, (length t.lists, omega (arith, t.passed, many)), tail)
      where
        many : slots < blocks_of d s h - m
        many = go (λ z. w (l.more.1 z))
          where
            go : (blocks_of d s h - m ≤ slots → ⊥) → slots < blocks_of d s h - m
            go z = omega (arith, z)

        e : list_blocks (blocks_of d s h - m) ≡ suc (list_blocks (blocks_of d s h - (m + n)))
        e = omega (arith, many)

        tail : Tail h (word_of s b 126) (m + n) (before s b c n)
        tail =
            record {
              lists = t.lists ++ (b ∷ []);
              split = t.split ∙ ap (λ q. t.lists ++ (b ∷ lists_from s b q)) e ∙ later;
              passed = omega (arith, many, t.passed, length-append t.lists (b ∷ []));
              keys = t.keys ++ keys_down s b 0 n;
              keyed = keyed';
              long = omega (arith, length-append t.keys (keys_down s b 0 n), t.long, down_long s b 0 n);
              last = before_at n (omega arith);
            }
          where
            q : ℕ
            q = list_blocks (blocks_of d s h - (m + n))

            rest : List ℕ
            rest = word_of s b 126 ∷ lists_from s (word_of s b 126) q

            after : lists_from s b (suc q) ≡ rest
            after = lists_after s b q

            later : t.lists ++ (b ∷ lists_from s b (suc q)) ≡ (t.lists ++ (b ∷ [])) ++ rest
            later = ap (λ x. t.lists ++ (b ∷ x)) after ∙ sym (append_assoc t.lists (b ∷ []) rest)

            f : blocks_of d s h - m - slots ≡ blocks_of d s h - (m + n)
            f = omega (arith, many)

            keyed' : keys_of d s h ≡ (t.keys ++ keys_down s b 0 n) ++ keys_from s (blocks_of d s h - (m + n)) rest
            keyed' =
                split
                ∙ ap (λ x. t.keys ++ (keys_down s b 0 n ++ x))
                (ap (λ y. keys_from s y blocks_after) f ∙ ap (keys_from s (blocks_of d s h - (m + n)))
                (ap (lists_from s b) e ∙ after))
                ∙ sym (append_assoc t.keys (keys_down s b 0 n) (keys_from s (blocks_of d s h - (m + n)) rest))

    nodes_stood : (x : Node) → x ∈ key_block_nodes d s h b m c → Stood x
    nodes_stood x a = go (in_either x (key_nodes s h b m c 0 n)
        (list_link (word_of s b 126) h (m + n) (before s b c n)) a)
      where
        go : (x ∈ key_nodes s h b m c 0 n) ⊎ (x ∈ list_link (word_of s b 126) h (m + n) (before s b c n)) → Stood x
        go (inl a) = keys_stood 0 n (omega arith) x a
        go (inr a) =
            let r = in_linked (word_of s b 126) (λ k. list k h (m + n) (before s b c n)) x a in
            subst Stood (sym r.1) (next_stood r.0)

  -- ---- from a node that passes to what it leads to

  slots_stood : (t : ℕ) → Holder d s t → (x : Node) → x ∈ slot_nodes s t 0 slots → Stood x
  unfolding chain_key
  slots_stood t o x h =
      let r = in_slots s t 0 slots x h in let l = r.1 in subst Stood (sym r.2.1) (o, omega arith, refl, r.2.0)

  contents_stood : (k : ℕ) → Reached (references d s) (to Kind.entry k) → (b : Bool) → directory s k ≡ b
      → (b ≡ false → (word_of s k 127 ≡ 0xFFFFFFFD) × KeyCount s k (blocks_of d s k)) → (x : Node)
      → x ∈ contents d s k b → Stood x
  contents_stood k r true e l = slots_stood k (inr (r, e))
  contents_stood k r false e l =
      let z : blocks_of d s k ≡ blocks_of d s k - 0 = omega arith in
      nodes_stood k k 0 k (record { reached = r; kind = (l refl).0 }) (header_tail k)
      (subst (KeyCount s k) z (l refl).1)

  leads_stood : (m : Node) → Reached (references d s) (bare d m) → fault_of d s m ≡ 0 → Stood m → (x : Node)
      → x ∈ leads_to d s m → Stood x
  unfolding leads_to fault_of
  leads_stood root r e c x (inl q) = subst Stood (sym q) refl
  leads_stood root r e c x (inr a) = slots_stood (root_of d) (inl refl) x a
  leads_stood (bitmap k) r e c x a = absurd a
  leads_stood (entry k t i p) r e c x a =
      go (in_either x (contents d s k (directory s k)) (chained (word_of s k 124) t i (suc p)) a)
    where
      next : chain_key s (slot_word s t i) (suc p) ≡ word_of s k 124
      next = chain_next s (slot_word s t i) p (λ z. c.3 (sym c.2 ∙ z)) ∙ ap (λ y. word_of s y 124) c.2

      go : (x ∈ contents d s k (directory s k)) ⊎ (x ∈ chained (word_of s k 124) t i (suc p)) → Stood x
      go (inl a) =
          contents_stood k r (directory s k) refl
          (λ q. let h = hung_passed d s k t i p e in (
            file_kind_lem d s k (entry_passed d s k t i h.0).entry q,
            (file_passed d s k (h.2 q)).lists,
          )) x a
      go (inr a) =
          let w = in_linked (word_of s k 124) (λ k. entry k t i (suc p)) x a in
          subst Stood (sym w.1) (c.0, c.1, next, w.0)
  leads_stood (list k h m b) r e c x a = nodes_stood h k m b c.0 c.2 (list_passed s k h _ e).2 x a
  leads_stood (datum k h n b) r e c x a = absurd a

  -- ---- the theorem

  -- what is reached by way of nodes that pass
  abbrev pub Met : Node → Type 0
  Met n = Reached (pruned (graph d s)).references n

  pub met : {n : Node} → Met n → Reached (references d s) (bare d n) × Stood n
  met (top e) = (top (ap (bare d) e), subst Stood (sym e) tt)
  met (ref {m = m} {n = n} i r h) = go (met r) (pruned_at (graph d s) i m n h)
    where
      go : Reached (references d s) (bare d m) × Stood m
          → (key_fault d (key_of d m) ≡ 0) × (fault_of d s m ≡ 0) × At i n (leads_to d s m)
          → Reached (references d s) (bare d n) × Stood n
      go w p =
          let a = at_map (bare d) i n (leads_to d s m) p.2 in (
            ref i w.0 (subst (At i (bare d n)) (refs_bare d s m (in_tree d s m p.1)) a),
            leads_stood m w.0 p.1 w.1 n (at_in n i (leads_to d s m) p.2),
          )

-- The theorem `passes_tree`: if every reached node passes its tests, every block is owned once, and length and tag
-- are right, the tree is as its law says. Assumes nothing.
use Prim.Native.Nat.{ℕ, zero, suc, ◌+◌, ◌-◌, ◌≤◌, ◌<◌}
use mathlib.Core.Path.{◌≡◌, refl, sym, ap, subst}
use mathlib.Core.Logic.{◌≢◌}
use mathlib.Core.Bool.{Bool, true, false}
use mathlib.Core.List.{List}
use native.Mathlib.Omega.{arith}
use lib.ListN.{length}
use Rattle.words.specs.Word.{word_at}
use Rattle.reach.specs.References.{◌∈◌, Reached, top, Owned}
use Rattle.reach.proofs.Lists.{in_left, in_right}
use Rattle.volume.specs.declared.disk.Disk.{Disk}
use Rattle.volume.specs.Disks.{first_key, image_bytes, tag_of, root_of}
use Rattle.volume.specs.Blocks.{word_of, sum_of, directory}
use Rattle.volume.specs.Files.{keys_down, list_blocks, blocks_of}
use Rattle.volume.specs.References.{Kind, Ref, to, references}
use Rattle.volume.specs.Law.{KeyCount, Directory, File, Tree, summed}
use Rattle.volume.proofs.Passes.{EntrySound, entry_passed, file_passed, list_passed, data_passed}
use Rattle.walk.specs.Nodes.{Node, root, bitmap, entry, list, datum, key_of, bare, before, key_nodes, list_link}
use Rattle.walk.specs.Nodes.{key_block_nodes, contents, leads_to, fault_of}
use Rattle.walk.proofs.Nodes.{NodeReached, linked_in}
use Rattle.walk.proofs.Passes.{Hung, key_passed, hung_passed, sum_passed}
use Rattle.walk.proofs.Accepts.{TreePasses, node_reached, node_key}
use Rattle.walk.proofs.Spreads.{Run, Spread, here, file_spreads}
use Rattle.walk.proofs.KeyRuns.{NodeFollows, run_nodes}
use Rattle.walk.proofs.Directories.{leads, contents_reached, root_opened, directory_law}

module _ (d : Disk) (s : List ℕ) (fine : TreePasses d s) where
  -- ---- a file

  sound : (n : Node) → NodeReached d s n → NodeFollows d s n
  unfolding fault_of
  sound root r = tt
  sound (bitmap k) r = tt
  sound (entry k t i p) r = tt
  sound (list k h m c) r = tt
  sound (datum k h n c) r = λ o. (data_passed d s k h n (word_of s c 4) (fine (datum k h n c) r).1 o).ties

  module _ (h b m c : ℕ) (r : (x : Node) → x ∈ key_block_nodes d s h b m c → NodeReached d s x) where
    abbrev n : ℕ
    n = here d s h m

    run_reached : Run d s h m c (keys_down s b 0 n)
    run_reached =
        (run_nodes d s h b m c).1 (λ x a. sound x
        (r x (in_left x (key_nodes s h b m c 0 n) (list_link (word_of s b 126) h (m + n) (before s b c n)) a)))

    next_reached : word_of s b 126 ≢ 0 → NodeReached d s (list (word_of s b 126) h (m + n) (before s b c n))
    next_reached w =
        let x = list (word_of s b 126) h (m + n) (before s b c n) in
        r x (in_right x (key_nodes s h b m c 0 n) (list_link (word_of s b 126) h (m + n) (before s b c n))
        (linked_in (word_of s b 126) (λ k. list k h (m + n) (before s b c n)) w))

  spread_reached : (h q b m c : ℕ) → q ≡ list_blocks (blocks_of d s h - m)
      → ((x : Node) → x ∈ key_block_nodes d s h b m c → NodeReached d s x) → KeyCount s b (blocks_of d s h - m)
      → Spread d s h q b m c
  unfolding fault_of leads_to
  spread_reached h zero b m c e r l = (l, run_reached h b m c r)
  spread_reached h (suc q) b m c e r l =
      let n = here d s h m in
      let x = list (word_of s b 126) h (m + n) (before s b c n) in
      let a = next_reached h b m c r (λ z. omega (arith, e, l.more.0 z)) in
      let f = list_passed s (word_of s b 126) h (blocks_of d s h - (m + n)) (fine x a).1 in (
        l,
        run_reached h b m c r,
        f.1,
        spread_reached h q (word_of s b 126) (m + n) (before s b c n) (omega (arith, e))
            (λ y h. leads d s x y a h) f.2,
      )

  -- ---- an entry

  abbrev IsEntry : Kind → Type 0
  IsEntry Kind.root = ⊥
  IsEntry Kind.bitmap = ⊥
  IsEntry Kind.entry = Unit {0}
  IsEntry Kind.list = ⊥
  IsEntry Kind.datum = ⊥

  abbrev EntryNode : ℕ → Type 0
  EntryNode k = (t : ℕ) × (i : ℕ) × (p : ℕ) × NodeReached d s (entry k t i p)

  entry_node : (k : ℕ) (n : Node) → NodeReached d s n → to Kind.entry k ≡ bare d n → EntryNode k
  entry_node k root r e = absurd (subst IsEntry (ap (λ x. x.kind) e) tt)
  entry_node k (bitmap x) r e = absurd (subst IsEntry (ap (λ x. x.kind) e) tt)
  entry_node k (entry x t i p) r e =
      (t, i, p, subst (λ y. NodeReached d s (entry y t i p)) (ap (λ x. x.key) (sym e)) r)
  entry_node k (list x h m c) r e = absurd (subst IsEntry (ap (λ x. x.kind) e) tt)
  entry_node k (datum x h n c) r e = absurd (subst IsEntry (ap (λ x. x.kind) e) tt)

  module _ (k : ℕ) (h : Reached (references d s) (to Kind.entry k)) where
    node : EntryNode k
    node = let r = node_reached d s fine h in entry_node k r.0 r.1 r.2

    hung : Hung d s k node.0 node.1 node.2
    unfolding fault_of
    hung = hung_passed d s k node.0 node.1 node.2 (fine (entry k node.0 node.1 node.2) node.3).1

    entry_sound : EntrySound d s k node.0 node.1
    entry_sound = entry_passed d s k node.0 node.1 hung.0

    content : (b : Bool) → directory s k ≡ b → (n : Node) → n ∈ contents d s k b → NodeReached d s n
    content b = contents_reached d s k node.0 node.1 node.2 b node.3

    directory_reached : directory s k ≡ true → (word_of s k 126 ≡ 0) × Directory d s k
    directory_reached e = (entry_sound.link e, directory_law d s k (content true e) fine)

    pub file_reached : directory s k ≡ false → File d s k
    file_reached e =
        let f = file_passed d s k (hung.2 e) in
        let z : blocks_of d s k ≡ blocks_of d s k - 0 = omega arith in
        (file_spreads d s k).1 (
          f.size,
          f.empty,
          spread_reached k (list_blocks (blocks_of d s k)) k 0 k (ap list_blocks z)
              (content false e) (subst (KeyCount s k) z f.lists),
        )

  -- ---- the theorem

  pub passes_tree : Owned (references d s) → length s ≡ image_bytes d → word_at s 0 ≡ tag_of d → Tree d s
  passes_tree o l t =
      record {
        long = l;
        tag = t;
        keys =
            λ r h. let n = node_reached d s fine h in subst (λ k. (first_key ≤ k) × (k < d.blocks))
            (node_key d s fine h) (key_passed d (key_of d n.0) (fine n.0 n.1).0);
        sums =
            λ r h o. let n = node_reached d s fine h in subst (λ k. sum_of s k ≡ 0) (node_key d s fine h)
            (sum_passed d s n.0 (fine n.0 n.1).1 (subst (λ (x : Ref). summed d x.kind ≡ true) n.2 o));
        top = (fine root (top refl)).1.1;
        entries = λ k h. (entry_sound k h).entry;
        holds = directory_law d s (root_of d) (root_opened d s) fine;
        directories = directory_reached;
        files = file_reached;
        owned = o;
      }

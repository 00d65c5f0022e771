-- The theorem `accepted_lawful`: the walk accepts if and only if every reached node passes its tests and, of blocks
-- and kinds alone, every block is owned once. `TreePasses` asks the same of a tree, where the root's w78 is not
-- asked. Assumes nothing.
use Prim.Native.Nat.{ℕ, ◌+◌, ◌-◌, ◌<◌}
use mathlib.Core.Path.{◌≡◌, refl, sym, ap, ap₂, ◌∙◌}
use mathlib.Core.Logic.{◌↔◌}
use mathlib.Core.Bool.{Bool, true, false}
use mathlib.Core.List.{List, ◌∷◌, ◌++◌, map, map-append}
use native.Mathlib.Omega.{arith}
use Rattle.answers.specs.Tests.{pick}
use Rattle.reach.specs.References.{Reached, Owned}
use Rattle.reach.specs.Walk.{Accepted}
use Rattle.reach.specs.Law.{AllPass}
use Rattle.reach.proofs.Accepts.{accepts}
use Rattle.reach.proofs.Bare.{to_bare, from_bare, law_bare}
use Rattle.volume.specs.declared.disk.Disk.{Disk}
use Rattle.volume.specs.Disks.{root_of}
use Rattle.volume.specs.Blocks.{slots, word_of, directory}
use Rattle.volume.specs.Files.{keys_here, blocks_of, keys_down}
use Rattle.volume.specs.References.{Kind, Ref, to, slot_refs, key_refs, refers_to, references}
use Rattle.volume.proofs.Passes.{list_passed, file_passed}
use Rattle.walk.specs.Nodes.{Node, root, bitmap, entry, list, datum, key_of, bare, chained, before, key_nodes}
use Rattle.walk.specs.Nodes.{list_link, counted_nodes, contents, leads_to, key_fault, fault_of, nothing, graph}
use Rattle.walk.specs.Nodes.{walk_of}
use Rattle.walk.proofs.Nodes.{NodeReached, linked_bare, slots_bare, keys_bare}
use Rattle.walk.proofs.Passes.{InTree, in_tree, key_passed, hung_passed}

module _ (d : Disk) (s : List ℕ) where
  pub key_bare : (n : Node) → (bare d n).key ≡ key_of d n
  key_bare root = refl
  key_bare (bitmap k) = refl
  key_bare (entry k t i p) = refl
  key_bare (list k h m c) = refl
  key_bare (datum k h n c) = refl

  -- a block that lists as many keys as it counts
  nodes_bare : (h b m c n : ℕ) → word_of s b 2 ≡ n → map (bare d) (counted_nodes s h b m c n) ≡ key_refs s b
  nodes_bare h b m c n e =
      map-append (bare d) (key_nodes s h b m c 0 n) (list_link (word_of s b 126) h (m + n) (before s b c n))
      ∙ ap₂ (λ x y. x ++ y) (keys_bare d s h b m c 0 n ∙ ap (λ j. map (to Kind.datum) (keys_down s b 0 j)) (sym e))
      (linked_bare d (word_of s b 126) (λ k. list k h (m + n) (before s b c n)) Kind.list (λ k. refl))

  -- a node that passes its tests refers to what its block refers to
  pub refs_bare : (n : Node) → InTree d s n → map (bare d) (leads_to d s n) ≡ refers_to s (bare d n).kind (bare d n).key
  unfolding leads_to refers_to fault_of pick
  refs_bare root e = ap (λ l. to Kind.bitmap (word_of s (root_of d) 79) ∷ l) (slots_bare d s (root_of d) 0 slots)
  refs_bare (bitmap k) e = refl
  refs_bare (entry k t i p) e =
      map-append (bare d) (contents d s k (directory s k)) (chained (word_of s k 124) t i _)
      ∙ ap₂ (λ x y. x ++ y) (go (directory s k) refl)
      (linked_bare d (word_of s k 124) (λ k. entry k t i _) Kind.entry (λ k. refl))
    where
      go : (u : Bool) → directory s k ≡ u
          → map (bare d) (contents d s k u) ≡ pick u (slot_refs s k 0 slots) (key_refs s k)
      go true h = slots_bare d s k 0 slots
      go false h =
          let q = (file_passed d s k ((hung_passed d s k t i p e).2 h)).lists.count in
          nodes_bare k k 0 k (keys_here (blocks_of d s k - 0)) (omega arith)
  refs_bare (list k h m c) e = nodes_bare h k m c (keys_here (blocks_of d s h - m)) (list_passed s k h _ e).2.count
  refs_bare (datum k h n c) e = refl

  -- whatever is in range has a claim byte
  pub room : (n : Node) → key_fault d (key_of d n) ≡ 0 → key_of d n < d.blocks
  room n e = (key_passed d (key_of d n) e).1

  -- every reached node passes, in a tree
  abbrev pub TreePasses : Type 0
  TreePasses = (n : Node) → NodeReached d s n → (key_fault d (key_of d n) ≡ 0) × InTree d s n

  pub passes_in_tree : AllPass (graph d s) → TreePasses
  passes_in_tree fine n r = ((fine n r).0, in_tree d s n (fine n r).1)

  pub accepted_lawful : Accepted (walk_of d s) ↔ (AllPass (graph d s) × Owned (references d s))
  unfolding walk_of
  accepted_lawful =
      let a = accepts (graph d s) d.blocks room nothing in
      let b =
      law_bare (graph d s) (references d s) (bare d) (InTree d s) refl key_bare refs_bare
      (λ f n r. (passes_in_tree f n r).1) in
      ((λ h. b.0 (a.0 h)), (λ h. a.1 (b.1 h)))

  -- ---- where every node passes, what is reached is one, with its context or without

  module _ (fine : TreePasses) where
    pub block_reached : {n : Node} → NodeReached d s n → Reached (references d s) (bare d n)
    block_reached r =
        to_bare (graph d s) (references d s) (bare d) (InTree d s) refl key_bare refs_bare (λ n r. (fine n r).1) r

    pub node_reached : {r : Ref} → Reached (references d s) r → (n : Node) × NodeReached d s n × (r ≡ bare d n)
    node_reached r =
        from_bare (graph d s) (references d s) (bare d) (InTree d s) refl key_bare refs_bare (λ n r. (fine n r).1) r

    pub node_key : {r : Ref} (h : Reached (references d s) r) → key_of d (node_reached h).0 ≡ r.key
    node_key h = sym (key_bare (node_reached h).0) ∙ ap (λ x. x.key) (sym (node_reached h).2)

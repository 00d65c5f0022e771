-- A node passes its tests if and only if its block is as the law says: of each kind the facts are those of `volume`'s
-- Passes. `InTree` is what a node passes where the root's w78 is not asked. Assumes nothing.
use Prim.Native.Nat.{ℕ, ◌≤◌, ◌<◌}
use mathlib.Core.Path.{◌≡◌, refl, sym, ◌∙◌}
use mathlib.Core.Logic.{◌⊎◌, inl, inr}
use mathlib.Core.Bool.{Bool, true, false}
use mathlib.Core.List.{List}
use borrow.Author.Tests.{lt-ltb, le-ltb, eqb-false}
use Rattle.answers.specs.Numbers as fault
use Rattle.answers.specs.Tests.{pick, never}
use Rattle.answers.proofs.Tests.{first_zero, must_passed, must_passes, never_passed, never_passes, pick_true}
use Rattle.answers.proofs.Tests.{pick_false}
use Rattle.volume.specs.declared.disk.Disk.{Disk}
use Rattle.volume.specs.Disks.{first_key, in_range, root_of}
use Rattle.volume.specs.Blocks.{slot_word, word_of, sum_of, directory}
use Rattle.volume.specs.Law.{Root, Valid, Entry, summed}
use Rattle.volume.specs.Rules.{root_fault, map_fault, entry_fault, file_fault}
use Rattle.volume.proofs.Sizes.{range_is}
use Rattle.volume.proofs.Passes.{◌&◌, root_passed, root_passes, map_passes, bitmap_passed, entry_passed, list_passed}
use Rattle.volume.proofs.Passes.{data_passed}
use Rattle.walk.specs.Nodes.{Node, root, bitmap, entry, list, datum, key_of, bare, twin, key_fault, hangs_fault}
use Rattle.walk.specs.Nodes.{fault_of}

module _ (d : Disk) where
  pub key_passed : (k : ℕ) → key_fault d k ≡ 0 → (first_key ≤ k) × (k < d.blocks)
  key_passed k e = range_is d k (must_passed (in_range d k) fault.bad_key e tt)

  pub key_passes : (k : ℕ) → (first_key ≤ k) × (k < d.blocks) → key_fault d k ≡ 0
  unfolding in_range pick
  key_passes k h = must_passes (in_range d k) 5 (rw (le-ltb k first_key h.0, lt-ltb k d.blocks h.1))

  module _ (s : List ℕ) where
    module _ (k t i p : ℕ) where
      -- an entry's tests: its block's own, no earlier name, and those of a file
      abbrev pub Hung : Type 0
      Hung =
          (entry_fault d s k t i ≡ 0) × (twin d s k (slot_word s t i) p ≡ false)
          × (directory s k ≡ false → file_fault d s k ≡ 0)

      pub hung_passed : hangs_fault d s k t i p ≡ 0 → Hung
      unfolding hangs_fault
      hung_passed e =
          let f = first_zero (entry_fault d s k t i) _ e in
          let g = first_zero (never (twin d s k (slot_word s t i) p) 13) _ f.1 in
          (f.0, never_passed _ fault.double_name g.0 tt, λ h. sym (pick_false (directory s k) _ _ _ h refl) ∙ g.1)

      pub hung_passes : Hung → hangs_fault d s k t i p ≡ 0
      unfolding hangs_fault
      hung_passes h = h.0 & never_passes _ 13 h.1 & file (directory s k) refl
        where
          file : (b : Bool) → directory s k ≡ b → pick (directory s k) 0 (file_fault d s k) ≡ 0
          file true e = pick_true (directory s k) _ _ _ e refl
          file false e = pick_false (directory s k) _ _ _ e refl ∙ h.2 e

    -- an entry that is no directory is a file
    pub file_kind_lem : (k : ℕ) → Entry s k → directory s k ≡ false → word_of s k 127 ≡ 0xFFFFFFFD
    file_kind_lem k h e = go h.kind.kind
      where
        go : (word_of s k 127 ≡ 2) ⊎ (word_of s k 127 ≡ 0xFFFFFFFD) → word_of s k 127 ≡ 0xFFFFFFFD
        go (inl q) = absurd (eqb-false _ _ e q)
        go (inr q) = q

    -- what a node passes in a tree: the root's w78 is not asked
    abbrev pub InTree : Node → Type 0
    InTree root = (sum_of s (root_of d) ≡ 0) × Root s (root_of d)
    InTree (bitmap k) = fault_of d s (bitmap k) ≡ 0
    InTree (entry k t i p) = fault_of d s (entry k t i p) ≡ 0
    InTree (list k h m c) = fault_of d s (list k h m c) ≡ 0
    InTree (datum k h n c) = fault_of d s (datum k h n c) ≡ 0

    pub root_in_tree : fault_of d s root ≡ 0 → InTree root × Valid d s
    unfolding fault_of
    root_in_tree e =
        let f = first_zero (root_fault d s) (map_fault d s) e in
        let p = root_passed d s f.0 f.1 in
        ((p.0, p.1), p.2)

    pub in_tree : (n : Node) → fault_of d s n ≡ 0 → InTree n
    in_tree root e = (root_in_tree e).0
    in_tree (bitmap k) e = e
    in_tree (entry k t i p) e = e
    in_tree (list k h m c) e = e
    in_tree (datum k h n c) e = e

    -- with w78 valid it passes all its tests
    pub passes_valid : Valid d s → (n : Node) → InTree n → fault_of d s n ≡ 0
    unfolding fault_of
    passes_valid v root e = root_passes d s e.0 e.1 & map_passes d s e.1 v
    passes_valid v (bitmap k) e = e
    passes_valid v (entry k t i p) e = e
    passes_valid v (list k h m c) e = e
    passes_valid v (datum k h n c) e = e

    -- whatever has words and is tested has the sum 0
    pub sum_passed : (n : Node) → InTree n → summed d (bare d n).kind ≡ true → sum_of s (key_of d n) ≡ 0
    unfolding fault_of
    sum_passed root e o = e.0
    sum_passed (bitmap k) e o = (bitmap_passed s k).0 e
    sum_passed (entry k t i p) e o = (entry_passed d s k t i (hung_passed k t i p e).0).sum
    sum_passed (list k h m c) e o = (list_passed s k h _ e).0
    sum_passed (datum k h n c) e o = (data_passed d s k h n _ e o).sum

-- The theorems `tree_decided` and `volume_decided`: the walk accepts, and length and tag are right, if and only if
-- the tree is as its law says and w78 is valid; with the bits right, that is a volume. Assumes nothing.
use Prim.Native.Nat.{ℕ, ◌≤◌, ◌<◌}
use mathlib.Core.Path.{◌≡◌, refl}
use mathlib.Core.Logic.{◌↔◌}
use mathlib.Core.List.{List}
use lib.ListN.{length}
use Rattle.words.specs.Word.{word_at}
use Rattle.reach.specs.References.{top}
use Rattle.reach.specs.Walk.{Accepted}
use Rattle.volume.specs.declared.disk.Disk.{Disk}
use Rattle.volume.specs.Disks.{first_key, image_bytes, tag_of}
use Rattle.volume.specs.Law.{Tree, Valid, BitRight, Volume}
use Rattle.walk.specs.Nodes.{root, walk_of}
use Rattle.walk.proofs.Passes.{root_in_tree, passes_valid}
use Rattle.walk.proofs.Accepts.{passes_in_tree, accepted_lawful}
use Rattle.walk.proofs.Trees.{passes_tree}
use Rattle.walk.proofs.Lawful.{tree_passes}

module _ (d : Disk) (s : List ℕ) where
  pub tree_decided : (Tree d s × Valid d s)
      ↔ (Accepted (walk_of d s) × (length s ≡ image_bytes d) × (word_at s 0 ≡ tag_of d))
  tree_decided = (
    (λ h. let v = h.0 in (
      (accepted_lawful d s).1
          ((λ n r. let p = tree_passes d s v n r in (p.0, passes_valid d s h.1 n p.1)), v.owned),
      v.long,
      v.tag,
    )),
    (λ p. let a = (accepted_lawful d s).0 p.0 in (
      passes_tree d s (passes_in_tree d s a.0) a.1 p.1 p.2,
      (root_in_tree d s (a.0 root (top refl)).1).1,
    )),
  )

  pub volume_decided : Volume d s
      ↔ (Accepted (walk_of d s) × (length s ≡ image_bytes d) × (word_at s 0 ≡ tag_of d)
      × ((k : ℕ) → first_key ≤ k → k < d.blocks → BitRight d s k))
  volume_decided = (
    (λ v. let p = tree_decided.0 (v.tree, v.valid) in (p.0, p.1, p.2, v.bits)),
    (λ p. let t = tree_decided.1 (p.0, p.1, p.2) in record { tree = t.0; valid = t.1; bits = p.3 }),
  )

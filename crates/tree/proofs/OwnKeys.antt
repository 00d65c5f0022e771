-- What a leaf of a tree has for itself is the list `own_blocks` (`own_keys`), no key twice (`keys_once`), and all of it
-- lies in the volume (`keys_inside`). Assumes nothing.
use Prim.Native.Nat.{ℕ, ◌≤◌, ◌<◌}
use mathlib.Core.Path.{◌≡◌, sym, subst}
use mathlib.Core.Logic.{inl, inr, ◌↔◌}
use mathlib.Core.List.{List, [], ◌∷◌, ◌++◌}
use native.Mathlib.Omega.{arith}
use Rattle.answers.specs.Tests.{pick}
use Rattle.reach.specs.References.{◌∈◌, Uniq, Reached}
use Rattle.volume.specs.declared.disk.Disk.{Disk}
use Rattle.volume.specs.Disks.{Sized, first_key}
use Rattle.volume.specs.Blocks.{directory}
use Rattle.volume.specs.Files.{lists_of, keys_of}
use Rattle.volume.specs.References.{Kind, to, references}
use Rattle.volume.specs.Law.{Tree, Used}
use Rattle.writes.proofs.Bits.{Ranged}
use Rattle.tree.specs.Pointers.{Leaf}
use Rattle.tree.specs.OwnBlocks.{Own, own_blocks}
use Rattle.tree.proofs.Owning.{own_reached, own_owned}
use Rattle.tree.proofs.OwnBlocks.{own_file, file_once, own_empty}

module _ (d : Disk) (s : List ℕ) (v : Tree d s) (k : ℕ) (r : Reached (references d s) (to Kind.entry k))
    (leaf : Leaf s k) where
  -- the list blocks and the data blocks of a file
  abbrev inner : List ℕ
  inner = lists_of d s k ++ keys_of d s k

  pub own_keys : (j : ℕ) → Own s k j ↔ (j ∈ own_blocks d s k)
  unfolding own_blocks pick
  own_keys j = go leaf
    where
      go : Leaf s k → Own s k j ↔ (j ∈ (k ∷ pick (directory s k) [] inner))
      go (inl e) = subst (λ b. Own s k j ↔ (j ∈ (k ∷ pick b [] inner))) (sym e) (own_file d s k e (v.files k r e) j)
      go (inr e) = subst (λ b. Own s k j ↔ (j ∈ (k ∷ pick b [] inner))) (sym e.0) ((λ o. inl (alone.0 o)), back)
        where
          alone : Own s k j ↔ (j ≡ k)
          alone = own_empty s k e.0 e.1 j

          back : j ∈ (k ∷ []) → Own s k j
          back (inl q) = alone.1 q
          back (inr m) = absurd m

  pub keys_once : Uniq (own_blocks d s k)
  unfolding own_blocks pick
  keys_once = go leaf
    where
      go : Leaf s k → Uniq (k ∷ pick (directory s k) [] inner)
      go (inl e) =
          subst (λ b. Uniq (k ∷ pick b [] inner)) (sym e)
          (file_once d s k e (v.files k r e) (own_owned d s k r v leaf))
      go (inr e) = subst (λ b. Uniq (k ∷ pick b [] inner)) (sym e.0) ((λ m. m), tt)

  pub keys_reached : (j : ℕ) → j ∈ own_blocks d s k → Used d s j
  keys_reached j m = let o = (own_keys j).1 m in (o.0, own_reached d s k r o.1, o.2)

  pub keys_inside : (j : ℕ) → j ∈ own_blocks d s k → (first_key ≤ j) × (j < d.blocks)
  keys_inside j m =
      let o = keys_reached j m in subst (λ x. (first_key ≤ x) × (x < d.blocks)) o.2 (v.keys o.0 o.1)

  -- so each has a bit in the bitmap block
  pub keys_ranged : Sized d → Ranged (own_blocks d s k)
  keys_ranged z j m = let h = keys_inside j m in let t = z.most in (h.0, omega (arith, h.1, t))

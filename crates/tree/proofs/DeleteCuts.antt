-- A delete cut off after any of its writes leaves the old tree or the new one whole (`delete_cut`), the new one
-- reaches all but the entry's own blocks (`delete_reached`), and after all four writes a volume is a volume
-- (`delete_volume`). Assumes nothing.
use Prim.Native.Nat.{ℕ, zero, suc, ◌^◌, ◌≤◌, ◌<◌}
use mathlib.Core.Path.{◌≡◌, sym, ◌∙◌, subst}
use mathlib.Core.Logic.{◌≢◌, ◌⊎◌, inl, inr, ◌↔◌}
use mathlib.Core.List.{List}
use native.Mathlib.Omega.{arith}
use lib.ListN.{length, take}
use Rattle.words.specs.Sum.{sum_at}
use Rattle.reach.specs.References.{Reached}
use Rattle.volume.specs.declared.disk.Disk.{Disk}
use Rattle.volume.specs.Disks.{Sized, first_key}
use Rattle.volume.specs.Blocks.{block_bytes, word_of}
use Rattle.volume.specs.References.{Kind, Ref, to, references}
use Rattle.volume.specs.Law.{Volume, Tree, Used, BitRight}
use Rattle.writes.specs.Alike.{Alike, SameBlock}
use Rattle.writes.specs.Writes.{carried}
use Rattle.tree.specs.OwnBlocks.{Own, Mine}
use Rattle.tree.specs.Pointers.{Leaf, Repointed, Pointed}
use Rattle.tree.specs.SameTree.{SameTree}
use Rattle.tree.specs.Links.{Links}
use Rattle.tree.specs.Repairs.{marked, Maps}
use Rattle.tree.specs.Deletes.{unhooked, deleted, delete_writes, Frees}
use Rattle.tree.proofs.Carrying.{key_holds}
use Rattle.tree.proofs.SameTrees.{Held, not_root, not_map, same_reached, same_sym, same_trans}
use Rattle.tree.proofs.Changed.{Holding, bare_same, entry_alike}
use Rattle.tree.proofs.Deleting.{repointed_one, repointed_tree, repointed_reached, repointed_parted}
use Rattle.tree.proofs.Kept.{same_entry, alike_then}
use Rattle.tree.proofs.Finding.{points_word, points_same, pointer_same, leaf_same, entry_same}
use Rattle.tree.proofs.Owning.{own_agrees}
use Rattle.tree.proofs.Marking.{put_repointed, same_self, marked_same, marked_tree}
use Rattle.tree.proofs.Repairing.{repaired_tree, repaired_same, repair_cut, repair_volume}

-- entry k is a leaf of the tree s, and its successor is a word
module _ (d : Disk) (s : List ℕ) (v : Tree d s) (k : ℕ) (q : Pointed d s k) (leaf : Leaf s k)
    (fits : word_of s k 124 < 2 ^ 32) where
  abbrev p : Ref
  p = q.from

  abbrev w : ℕ
  w = q.word

  -- the image after one write, and after two
  abbrev s₁ : List ℕ
  s₁ = marked d s 0

  abbrev s₂ : List ℕ
  s₂ = unhooked d s p.key w k

  same₁ : SameTree d s s₁
  same₁ = marked_same d s v 0 (omega arith)

  tree₁ : Tree d s₁
  tree₁ = marked_tree d s v 0 (omega arith)

  -- ---- the pointer, on the image with w78 = 0

  reached₁ : Reached (references d s₁) p
  reached₁ = (same_reached d s v s₁ same₁ p).0 q.reached

  next₁ : word_of s₁ k 124 ≡ word_of s k 124
  next₁ = entry_same d s s₁ v same₁ k 124 q.entry (omega arith)

  moves : Repointed s₁ s₂ p.key w (word_of s₁ k 124)
  moves =
      let l = points_word d s p w q.place in
      subst (Repointed s₁ s₂ p.key w) (sym next₁)
      (put_repointed s₁ p.key w (word_of s k 124) (key_holds d s₁ tree₁ p reached₁) l.0 l.1 fits)

  points₁ : word_of s₁ p.key w ≡ k
  points₁ = pointer_same d s s₁ v same₁ p w q.reached q.place ∙ q.points

  leaf₁ : Leaf s₁ k
  leaf₁ = leaf_same d s s₁ v same₁ k q.entry leaf

  tree₂ : Tree d s₂
  tree₂ =
      repointed_tree d s₁ s₂ tree₁ p w k reached₁ points₁ q.some moves
      (points_same d s s₁ v same₁ p w q.reached q.place) leaf₁

  parted₂ : (m n : Ref) → Reached (references d s₂) m → Mine s₁ k n → m.key ≢ n.key
  parted₂ =
      (repointed_parted d s₁ s₂ tree₁ p w k reached₁ points₁ q.some moves
      (points_same d s s₁ v same₁ p w q.reached q.place) leaf₁).apart

  reached₂ : (r : Ref) → Reached (references d s₁) r ↔ (Reached (references d s₂) r ⊎ Mine s₁ k r)
  reached₂ =
      repointed_reached d s₁ s₂ tree₁ p w k reached₁ points₁ q.some moves
      (points_same d s s₁ v same₁ p w q.reached q.place) leaf₁

  -- What was reached is reached without the entry, or is the entry's own; and no block is both.
  pub delete_reached : (r : Ref) → Reached (references d s) r ↔ (Reached (references d s₂) r ⊎ Mine s k r)
  delete_reached r = (there, back)
    where
      there : Reached (references d s) r → Reached (references d s₂) r ⊎ Mine s k r
      there h = go ((reached₂ r).0 ((same_reached d s v s₁ same₁ r).0 h))
        where
          go : Reached (references d s₂) r ⊎ Mine s₁ k r → Reached (references d s₂) r ⊎ Mine s k r
          go (inl a) = inl a
          go (inr a) = inr ((own_agrees d s k q.entry v leaf s₁ same₁ r).1 a)

      back : Reached (references d s₂) r ⊎ Mine s k r → Reached (references d s) r
      back (inl a) = (same_reached d s v s₁ same₁ r).1 ((reached₂ r).1 (inl a))
      back (inr a) =
          (same_reached d s v s₁ same₁ r).1 ((reached₂ r).1 (inr ((own_agrees d s k q.entry v leaf s₁ same₁ r).0 a)))

  pub delete_apart : (m n : Ref) → Reached (references d s₂) m → Mine s k n → m.key ≢ n.key
  delete_apart m n h g = parted₂ m n h ((own_agrees d s k q.entry v leaf s₁ same₁ n).0 g)

  pub delete_used : (j : ℕ) → Used d s₂ j ↔ (Used d s j × ¬ (Own s k j))
  delete_used j = (
    (λ u. (
      (u.0, (delete_reached u.0).1 (inl u.1), u.2),
      λ o. delete_apart u.0 o.0 u.1 o.1
          (u.2 ∙ sym o.2),
    )),
    (λ x. go x.0.0 x.0.2 x.1 ((delete_reached x.0.0).0 x.0.1)),
  )
    where
      go : (r : Ref) → r.key ≡ j → ¬ (Own s k j) → Reached (references d s₂) r ⊎ Mine s k r → Used d s₂ j
      go r e n (inl h) = (r, h, e)
      go r e n (inr h) = absurd (n (r, h, e))

  -- an entry that is left is alike but for links
  pub delete_alike : (y : ℕ) → Reached (references d s₂) (to Kind.entry y) → Alike (Links s y) s s₂ y
  delete_alike y h =
      alike_then s s₁ s₂ y (same_entry d s v s₁ same₁ y ((delete_reached (to Kind.entry y)).1 (inl h)))
      (entry_alike d s₁ s₂ p w (word_of s₁ k 124) (points_same d s s₁ v same₁ p w q.reached q.place) moves one₂ y
      h)
    where
      one₂ : (r : Ref) → Reached (references d s₂) r → r.key ≡ p.key → r ≡ p
      one₂ =
          repointed_one d s₁ s₂ tree₁ p w k reached₁ points₁ q.some moves
          (points_same d s s₁ v same₁ p w q.reached q.place) leaf₁

  -- a list block or a data block that is left is the same
  pub delete_bare : (r : Ref) → Reached (references d s₂) r → Held r.kind → (Holding r.kind → ⊥)
      → SameBlock s s₂ r.key
  delete_bare r h w n i l z =
      bare_same d s₁ s₂ p w' (word_of s₁ k 124) (points_same d s s₁ v same₁ p w' q.reached q.place) moves one₂ r h
      n i l z
      ∙ same₁.blocks r (was r h) (not_root d s v r (was r h) w) (not_map d s v r (was r h) w) i l z
    where
      w' : ℕ
      w' = q.word

      was : (r : Ref) → Reached (references d s₂) r → Reached (references d s) r
      was r h = (delete_reached r).1 (inl h)

      one₂ : (r : Ref) → Reached (references d s₂) r → r.key ≡ p.key → r ≡ p
      one₂ =
          repointed_one d s₁ s₂ tree₁ p w' k reached₁ points₁ q.some moves
          (points_same d s s₁ v same₁ p w' q.reached q.place) leaf₁

  pub unhooked_tree : Tree d s₂
  unhooked_tree = tree₂

  -- ---- all of the writes; the new bitmap block has a sum of 0

  module _ (page : List ℕ) (whole : length page ≡ block_bytes) (sum : sum_at page 0 ≡ 0) where
    -- After any number of them there is a tree: the old one, or the one after all of them.
    pub delete_cut : (j : ℕ) → let t =
        carried s (take j (delete_writes d s p.key w k page)) in Tree d t
        × (SameTree d s t ⊎ SameTree d (deleted d s p.key w k page) t)
    delete_cut zero = (v, inl (same_self d s))
    delete_cut (suc zero) = (tree₁, inl same₁)
    delete_cut (suc (suc j)) =
        let c = repair_cut d s₂ tree₂ page whole sum j in
        let e = deleted d s p.key w k page in (
          c.0,
          inr (same_trans d e (repaired_tree d s₂ tree₂ page whole sum) s₂ _
              (same_sym d s₂ tree₂ e (repaired_same d s₂ tree₂ page whole sum)) c.1),
        )

    -- If the bits were right and the page frees what is k's, all of them leave a volume.
    pub delete_volume : Sized d → ((j : ℕ) → first_key ≤ j → j < d.blocks → BitRight d s j) → Frees d s k page
        → Volume d (deleted d s p.key w k page)
    delete_volume z bits frees = repair_volume d s₂ tree₂ page whole sum z maps
      where
        maps : Maps d s₂ page
        maps j a b = (
          (λ f. let y = (frees j a b).0 f in (delete_used j).1 ((bits j a b).0 y.0, y.1)),
          (λ u. let y = (delete_used j).0 u in (frees j a b).1 ((bits j a b).1 y.0, y.1)),
        )

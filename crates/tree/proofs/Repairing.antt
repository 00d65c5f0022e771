-- A repair of a tree, cut off after any of its writes, leaves the same tree (`repair_cut`); all of it leaves a volume
-- (`repair_volume`). Assumes nothing.
use Prim.Native.Nat.{ℕ, zero, suc, ◌*◌, ◌≤◌, ◌<◌}
use mathlib.Core.Path.{◌≡◌, refl, sym, ◌∙◌}
use mathlib.Core.List.{List}
use native.Mathlib.Omega.{arith}
use lib.ListN.{length, take}
use Rattle.words.specs.Word.{word_at}
use Rattle.words.specs.Sum.{sum_at}
use Rattle.volume.specs.declared.disk.Disk.{Disk}
use Rattle.volume.specs.Disks.{Sized, first_key}
use Rattle.volume.specs.Blocks.{block_bytes, word_of}
use Rattle.volume.specs.Bitmap.{bit_word, is_free}
use Rattle.volume.specs.Law.{Volume, Tree, bitmap_key_of, BitRight}
use Rattle.writes.specs.Bits.{free_in}
use Rattle.writes.specs.Writes.{carried}
use Rattle.writes.proofs.Puts.{word_put}
use Rattle.tree.specs.SameTree.{SameTree}
use Rattle.tree.specs.Repairs.{mapped, repaired, repair_writes, Maps}
use Rattle.tree.proofs.Refers.{same_word}
use Rattle.tree.proofs.SameTrees.{map_same, same_reached, same_trans}
use Rattle.tree.proofs.Marking.{same_self, map_holds, map_apart, marked_same, marked_word, marked_others}
use Rattle.tree.proofs.Marking.{marked_tree, mapped_same, mapped_tree}

module _ (d : Disk) (s : List ℕ) (v : Tree d s) (page : List ℕ) (whole : length page ≡ block_bytes)
    (sum : sum_at page 0 ≡ 0) where
  abbrev s₁ : List ℕ
  s₁ = mapped d s page

  abbrev s₂ : List ℕ
  s₂ = repaired d s page

  tree₁ : Tree d s₁
  tree₁ = mapped_tree d s v page whole sum

  pub repaired_tree : Tree d s₂
  repaired_tree = marked_tree d s₁ tree₁ 0xFFFFFFFF (omega arith)

  pub repaired_same : SameTree d s s₂
  repaired_same =
      same_trans d s v s₁ s₂ (mapped_same d s v page whole) (marked_same d s₁ tree₁ 0xFFFFFFFF (omega arith))

  -- After any number of the writes the tree is the same.
  pub repair_cut : (j : ℕ) → let t = carried s (take j (repair_writes d s page)) in Tree d t × SameTree d s t
  repair_cut zero = (v, same_self d s)
  repair_cut (suc zero) = (tree₁, mapped_same d s v page whole)
  repair_cut (suc (suc zero)) = (repaired_tree, repaired_same)
  repair_cut (suc (suc (suc j))) = (repaired_tree, repaired_same)

  -- ---- the bits

  map_stays : bitmap_key_of d s₂ ≡ bitmap_key_of d s
  map_stays = map_same d s v s₂ repaired_same

  page_word : (i : ℕ) → i < 128 → word_of s₂ (bitmap_key_of d s) i ≡ word_at page (4 * i)
  page_word i l =
      same_word s₁ s₂ (bitmap_key_of d s)
      (marked_others d s₁ tree₁ 0xFFFFFFFF (omega arith) (bitmap_key_of d s) (map_apart d s v)) i l
      ∙ word_put s (bitmap_key_of d s) page (map_holds d s v) whole i l

  page_bit : Sized d → (j : ℕ) → first_key ≤ j → j < d.blocks → is_free s₂ (bitmap_key_of d s₂) j ≡ free_in page j
  unfolding is_free free_in
  page_bit z j a b = let m = z.most in rw (map_stays, page_word (bit_word j) (omega arith)) refl

  -- With the right bits, all of the writes leave a volume.
  pub repair_volume : Sized d → Maps d s page → Volume d s₂
  repair_volume z maps =
      record { tree = repaired_tree; valid = marked_word d s₁ tree₁ 0xFFFFFFFF (omega arith); bits = bits' }
    where
      bits' : (j : ℕ) → first_key ≤ j → j < d.blocks → BitRight d s₂ j
      bits' j a b =
          let e = page_bit z j a b in (
            (λ f. let u = (maps j a b).0 (sym e ∙ f) in
                (u.0, (same_reached d s v s₂ repaired_same u.0).0 u.1, u.2)),
            (λ u. e ∙ (maps j a b).1 (u.0, (same_reached d s v s₂ repaired_same u.0).1 u.1, u.2)),
          )

-- An entry that hangs on a chain is pointed to (`hangs_points`); and on an image with the same tree the same word
-- points to it (`points_same`, `pointer_same`), and it is a leaf if it was one (`leaf_same`). Assumes nothing.
use Prim.Native.Nat.{ℕ, zero, suc, ◌+◌, ◌<◌}
use mathlib.Core.Path.{◌≡◌, refl, sym, ◌∙◌, subst}
use mathlib.Core.Logic.{◌≢◌, inl, inr}
use mathlib.Core.List.{List}
use native.Mathlib.Omega.{arith}
use Rattle.reach.specs.References.{Reached, top}
use Rattle.volume.specs.declared.disk.Disk.{Disk}
use Rattle.volume.specs.Disks.{root_of}
use Rattle.volume.specs.Blocks.{word_of, slot_word, directory}
use Rattle.volume.specs.References.{Kind, Ref, to, references}
use Rattle.volume.specs.Law.{chain_key, Hangs, Tree}
use Rattle.walk.proofs.Chains.{chain_next, chain_before}
use Rattle.walk.proofs.Positions.{Holder, from_chain, referred}
use Rattle.tree.specs.SameTree.{SameTree}
use Rattle.tree.specs.Pointers.{Points, in_root, in_directory, in_chain, Pointed, Leaf}
use Rattle.tree.proofs.Refers.{same_word}
use Rattle.tree.proofs.Carrying.{hung_reached}
use Rattle.tree.proofs.SameTrees.{root_word}
use Rattle.tree.proofs.Kept.{same_entry}

pub hangs_points : (d : Disk) (s : List ℕ) (x i k : ℕ) → Holder d s x → Hangs s x i k → Pointed d s k
unfolding chain_key
hangs_points d s x i k o g = go g.position g.there o
  where
    go : (q : ℕ) → chain_key s (slot_word s x i) q ≡ k → Holder d s x → Pointed d s k
    go zero e (inl r) =
        record {
          from = to Kind.root (root_of d);
          word = 6 + i;
          place = in_root i g.slot refl refl;
          reached = top refl;
          points = rw (← r) e;
          some = g.some;
          entry = hung_reached d s x i k o g;
        }
    go zero e (inr r) =
        record {
          from = to Kind.entry x;
          word = 6 + i;
          place = in_directory x i g.slot refl r.1 refl;
          reached = r.0;
          points = e;
          some = g.some;
          entry = hung_reached d s x i k o g;
        }
    go (suc q) e o =
        let z : chain_key s (slot_word s x i) (suc q) ≢ 0 = λ y. g.some (sym e ∙ y) in
        let n = chain_before s (slot_word s x i) q z in
        let y = chain_key s (slot_word s x i) q in
        record {
          from = to Kind.entry y;
          word = 124;
          place = in_chain y refl refl;
          reached = referred d s y (from_chain d s x i o g.slot q n);
          points = sym (chain_next s (slot_word s x i) q n) ∙ e;
          some = g.some;
          entry = hung_reached d s x i k o g;
        }

-- a pointer is a slot or w124
pub points_word : (d : Disk) (s : List ℕ) (p : Ref) (w : ℕ) → Points d s p w → (w < 128) × (w ≢ 5) × (w ≢ 79)
points_word d s p w (in_root i l e f) = (omega arith, omega arith, omega arith)
points_word d s p w (in_directory x i l e g f) = (omega arith, omega arith, omega arith)
points_word d s p w (in_chain x e f) = (omega arith, omega arith, omega arith)

-- ---- on an image with the same tree

module _ (d : Disk) (s t : List ℕ) (v : Tree d s) (a : SameTree d s t) where
  pub entry_same : (x j : ℕ) → Reached (references d s) (to Kind.entry x) → j < 128 → word_of t x j ≡ word_of s x j
  entry_same x j r l = same_word s t x (same_entry d s v t a x r) j l

  kind_same : (x : ℕ) → Reached (references d s) (to Kind.entry x) → directory t x ≡ directory s x
  kind_same x r = rw (entry_same x 127 r (omega arith)) refl

  pub leaf_same : (k : ℕ) → Reached (references d s) (to Kind.entry k) → Leaf s k → Leaf t k
  leaf_same k r (inl e) = inl (kind_same k r ∙ e)
  leaf_same k r (inr e) = inr (kind_same k r ∙ e.0, λ i l. entry_same k (6 + i) r (omega arith) ∙ e.1 i l)

  pub points_same : (p : Ref) (w : ℕ) → Reached (references d s) p → Points d s p w → Points d t p w
  points_same p w r (in_root i l e f) = in_root i l e f
  points_same p w r (in_directory x i l e g f) =
      in_directory x i l e (kind_same x (subst (Reached (references d s)) e r) ∙ g) f
  points_same p w r (in_chain x e f) = in_chain x e f

  pub pointer_same : (p : Ref) (w : ℕ) → Reached (references d s) p → Points d s p w
      → word_of t p.key w ≡ word_of s p.key w
  pointer_same p w r (in_root i l e f) =
      subst (λ y. word_of t y.key w ≡ word_of s y.key w) (sym e)
      (root_word d s v t a w (omega arith) (omega arith) (omega arith))
  pointer_same p w r (in_directory x i l e g f) =
      subst (λ y. word_of t y.key w ≡ word_of s y.key w) (sym e)
      (entry_same x w (subst (Reached (references d s)) e r) (omega arith))
  pointer_same p w r (in_chain x e f) =
      subst (λ y. word_of t y.key w ≡ word_of s y.key w) (sym e)
      (entry_same x w (subst (Reached (references d s)) e r) (omega arith))

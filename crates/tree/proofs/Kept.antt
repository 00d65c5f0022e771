-- What a find sees of an entry stays where its block is alike but for links (`alike_kept`). Assumes nothing.
use Prim.Native.Nat.{ℕ}
use mathlib.Core.Path.{◌≡◌, refl, sym, ◌∙◌}
use mathlib.Core.Logic.{inl, inr}
use mathlib.Core.List.{List}
use native.Mathlib.Omega.{arith}
use Rattle.reach.specs.References.{Reached}
use Rattle.volume.specs.declared.disk.Disk.{Disk}
use Rattle.volume.specs.Blocks.{Holds, word_of, directory}
use Rattle.volume.specs.Names.{name_of}
use Rattle.volume.specs.Files.{size_of}
use Rattle.volume.specs.References.{Kind, to, references}
use Rattle.volume.specs.Law.{Entry, Tree}
use Rattle.writes.specs.Alike.{Alike, SameBlock}
use Rattle.tree.specs.Links.{Links}
use Rattle.tree.specs.SameTree.{SameTree}
use Rattle.tree.proofs.Refers.{same_word}
use Rattle.tree.proofs.Entries.{entry_word, kind_carried, name_carried}
use Rattle.tree.proofs.SameTrees.{not_root, not_map}

pub record Kept (s t : List ℕ) (y : ℕ) : Type 0 where
  pub parent : word_of t y 125 ≡ word_of s y 125
  pub name : name_of t y ≡ name_of s y
  pub kind : directory t y ≡ directory s y
  pub size : size_of t y ≡ size_of s y

pub alike_kept : (s t : List ℕ) (y : ℕ) → Alike (Links s y) s t y → Holds s y → Holds t y → Entry s y → Kept s t y
alike_kept s t y a h g e =
    record {
      parent = entry_word s t y a 125 (omega arith) (omega arith) (omega arith) (λ z. omega (arith, z.1));
      name = name_carried s t y a h g e;
      kind = kind_carried s t y a;
      size = entry_word s t y a 81 (omega arith) (omega arith) (omega arith) (λ z. omega (arith, z.1));
    }

-- the same block, then alike but for links
pub alike_then : (s t u : List ℕ) (y : ℕ) → SameBlock s t y → Alike (Links t y) t u y → Alike (Links s y) s u y
alike_then s t u y a b i l n = b i l (λ m. n (back m)) ∙ a i l (λ z. z)
  where
    kinds : directory t y ≡ directory s y
    kinds = rw (same_word s t y a 127 (omega arith)) refl

    back : {j : ℕ} → Links t y j → Links s y j
    back (inl e) = inl e
    back (inr (inl e)) = inr (inl e)
    back (inr (inr e)) = inr (inr (sym kinds ∙ e.0, e.1))

-- alike but for links, then the same block
pub then_same : (s t u : List ℕ) (y : ℕ) → Alike (Links s y) s t y → SameBlock t u y → Alike (Links s y) s u y
then_same s t u y a b i l n = b i l (λ z. z) ∙ a i l n

pub same_entry : (d : Disk) (s : List ℕ) (v : Tree d s) (t : List ℕ) → SameTree d s t → (y : ℕ)
    → Reached (references d s) (to Kind.entry y) → SameBlock s t y
same_entry d s v t a y r =
    a.blocks (to Kind.entry y) r (not_root d s v (to Kind.entry y) r tt) (not_map d s v (to Kind.entry y) r tt)

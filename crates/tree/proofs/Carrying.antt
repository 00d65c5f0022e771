-- The law of a tree carried over from the image s to the image t: what t reaches s reaches, alike but for links, and
-- what hangs on a chain in t hangs there in s (`tree_carried`). Assumes nothing.
use Prim.Native.Nat.{ℕ}
use mathlib.Core.Path.{◌≡◌, refl, sym, ap, ◌∙◌, subst}
use mathlib.Core.Logic.{inl, inr}
use mathlib.Core.Bool.{true, false}
use mathlib.Core.List.{List}
use native.Mathlib.Omega.{arith}
use lib.ListN.{length}
use Rattle.words.specs.Word.{word_at}
use Rattle.reach.specs.References.{Reached, top, Owned}
use Rattle.volume.specs.declared.disk.Disk.{Disk}
use Rattle.volume.specs.Disks.{root_of}
use Rattle.volume.specs.Blocks.{Holds, sum_of, directory}
use Rattle.volume.specs.Names.{name_of, folded, slot_of}
use Rattle.volume.specs.References.{Kind, Ref, to, references}
use Rattle.volume.specs.Law.{Hangs, Directory, File, Entry, Tree, summed}
use Rattle.walk.proofs.Positions.{Holder, from_chain, referred}
use Rattle.writes.specs.Alike.{Alike, SameBlock}
use Rattle.tree.specs.Links.{Links, RootLinks}
use Rattle.tree.proofs.Entries.{root_carried, entry_word, kind_carried, entry_carried, name_carried}
use Rattle.tree.proofs.Entries.{no_file_link, file_carried}
use Rattle.writes.proofs.Alike.{alike_word}

-- what hangs on a chain of the root or of a reached directory is reached
pub hung_reached : (d : Disk) (s : List ℕ) (x i k : ℕ) → Holder d s x → Hangs s x i k
    → Reached (references d s) (to Kind.entry k)
hung_reached d s x i k o g =
    subst (λ y. Reached (references d s) (to Kind.entry y)) g.there
    (referred d s _ (from_chain d s x i o g.slot g.position (λ z. g.some (sym g.there ∙ z))))

pub record Carries (d : Disk) (s t : List ℕ) : Type 0 where
  pub long : length t ≡ length s
  pub tag : word_at t 0 ≡ word_at s 0
  pub reached : (r : Ref) → Reached (references d t) r → Reached (references d s) r
  pub sums : (r : Ref) → Reached (references d t) r → summed d r.kind ≡ true → sum_of t r.key ≡ 0
  pub root : Alike RootLinks s t (root_of d)
  pub entries : (k : ℕ) → Reached (references d t) (to Kind.entry k) → Alike (Links s k) s t k
  pub lists : (k : ℕ) → Reached (references d t) (to Kind.list k) → SameBlock s t k
  pub datums : (k : ℕ) → Reached (references d t) (to Kind.datum k) → SameBlock s t k
  pub hangs : (x i k : ℕ) → Holder d t x → Hangs t x i k → Hangs s x i k
  pub owned : Owned (references d t)

-- a reached key has its block in the image
pub key_holds : (d : Disk) (s : List ℕ) (v : Tree d s) (r : Ref) → Reached (references d s) r → Holds s r.key
key_holds d s v r h = omega (arith, v.long, (v.keys r h).1)

module _ (d : Disk) (s t : List ℕ) (v : Tree d s) (c : Carries d s t) where
  module _ (k : ℕ) (r : Reached (references d t) (to Kind.entry k)) where
    was : Reached (references d s) (to Kind.entry k)
    was = c.reached (to Kind.entry k) r

    inside : Holds s k
    inside = key_holds d s v (to Kind.entry k) was

    inside' : Holds t k
    inside' = omega (arith, inside, c.long)

    entry_law : Entry t k
    entry_law = entry_carried s t k (c.entries k r) inside inside' (v.entries k was)

    name_same : name_of t k ≡ name_of s k
    name_same = name_carried s t k (c.entries k r) inside inside' (v.entries k was)

    kind_same : directory t k ≡ directory s k
    kind_same = kind_carried s t k (c.entries k r)

    file_law : directory t k ≡ false → File d t k
    file_law e =
        let f = sym kind_same ∙ e in
        let z =
        alike_word (Links s k) s t k (c.entries k r) 81 (omega arith)
        (no_file_link s k 81 f (omega arith) (omega arith)) in
        file_carried d s t c.lists c.datums k z r (c.entries k r) f (v.files k was f)

  -- a directory, or the root, from what it was
  held : (x : ℕ) → Holder d t x → Directory d s x
  held x (inl e) = rw e v.holds
  held x (inr o) = (v.directories x (c.reached (to Kind.entry x) o.0) (sym (kind_same x o.0) ∙ o.1)).1

  directory_law : (x : ℕ) → Holder d t x → Directory d t x
  directory_law x o =
      record {
        parent =
            λ i k g. entry_word s t k (c.entries k (at i k g)) 125 (omega arith) (omega arith) (omega arith)
            (λ z. omega (arith, z.1)) ∙ (held x o).parent i k (c.hangs x i k o g);
        slot = λ i k g. ap (slot_of d) (name_same k (at i k g)) ∙ (held x o).slot i k (c.hangs x i k o g);
        names =
            λ i j k l g h e. (held x o).names i j k l (c.hangs x i k o g) (c.hangs x j l o h)
            (ap (folded d) (sym (name_same k (at i k g))) ∙ e ∙ ap (folded d) (name_same l (at j l h)));
      }
    where
      at : (i k : ℕ) → Hangs t x i k → Reached (references d t) (to Kind.entry k)
      at i k g = hung_reached d t x i k o g

  pub tree_carried : Tree d t
  tree_carried =
      let r = key_holds d s v (to Kind.root (root_of d)) (top refl) in
      record {
        long = c.long ∙ v.long;
        tag = c.tag ∙ v.tag;
        keys = λ r h. v.keys r (c.reached r h);
        sums = c.sums;
        top = root_carried s t (root_of d) r (omega (arith, r, c.long)) c.root v.top;
        entries = entry_law;
        holds = directory_law (root_of d) (inl refl);
        directories =
            λ k h e. (
              entry_word s t k (c.entries k h) 126 (omega arith) (omega arith) (omega arith)
                  (λ z. omega (arith, z.1)) ∙ (v.directories k (was k h) (sym (kind_same k h) ∙ e)).0,
              directory_law k
                  (inr (h, e)),
            );
        files = file_law;
        owned = c.owned;
      }

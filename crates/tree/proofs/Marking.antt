-- The root with another w78, a new bitmap block and a moved pointer, each as one write: what the image has then.
-- Assumes nothing.
use Prim.Native.Nat.{ℕ, ◌^◌, ◌<◌}
use mathlib.Core.Path.{◌≡◌, refl, sym, ◌∙◌, subst}
use mathlib.Core.Logic.{◌≢◌}
use mathlib.Core.List.{List}
use native.Mathlib.Omega.{arith}
use lib.ListN.{length}
use Rattle.words.specs.Sum.{sum_at}
use Rattle.reach.specs.References.{top}
use Rattle.volume.specs.declared.disk.Disk.{Disk}
use Rattle.volume.specs.Disks.{root_of}
use Rattle.volume.specs.Blocks.{block_bytes, Holds, word_of}
use Rattle.volume.specs.References.{Kind, to, references}
use Rattle.cut.proofs.Singles.{one_node}
use Rattle.writes.specs.Alike.{SameBlock}
use Rattle.writes.specs.Writes.{put, edited}
use Rattle.writes.proofs.Alike.{same_sum}
use Rattle.writes.proofs.Puts.{length_put, put_other, sum_put}
use Rattle.writes.proofs.Edits.{edited_long, edited_others, edited_alike, edited_word, edited_sum}
use Rattle.volume.specs.Law.{Tree, bitmap_key_of}
use Rattle.tree.specs.SameTree.{SameTree}
use Rattle.tree.specs.Pointers.{Repointed}
use Rattle.tree.specs.Repairs.{marked}
use Rattle.tree.proofs.Refers.{same_word}
use Rattle.tree.proofs.Carrying.{key_holds}
use Rattle.tree.proofs.SameTrees.{map_reached, same_tree}

-- the bitmap block is not the root
abbrev IsMap : Kind → Type 0
IsMap Kind.root = ⊥
IsMap Kind.bitmap = Unit {0}
IsMap Kind.entry = ⊥
IsMap Kind.list = ⊥
IsMap Kind.datum = ⊥

-- one word of a block edited and put back
pub put_repointed : (s : List ℕ) (p w v : ℕ) → Holds s p → w < 128 → w ≢ 5 → v < 2 ^ 32
    → Repointed s (put s p (edited s p w v)) p w v
put_repointed s p w v h l n b =
    record {
      long = edited_long s p h w v l n b;
      others = edited_others s p h w v l n b;
      rest = edited_alike s p h w v l n b;
      now = edited_word s p h w v l n b;
      sum = edited_sum s p h w v l n b;
    }

pub same_self : (d : Disk) (s : List ℕ) → SameTree d s s
same_self d s = record { long = refl; tag = refl; root = λ i l n. refl; blocks = λ r h p q i l n. refl }

module _ (d : Disk) (s : List ℕ) (v : Tree d s) where
  pub root_holds : Holds s (root_of d)
  root_holds = key_holds d s v (to Kind.root (root_of d)) (top refl)

  pub map_holds : Holds s (bitmap_key_of d s)
  map_holds = key_holds d s v (to Kind.bitmap (bitmap_key_of d s)) (map_reached d s v)

  root_high : 0 ≢ root_of d
  root_high e = omega (arith, (v.keys (to Kind.root (root_of d)) (top refl)).0, e)

  map_high : 0 ≢ bitmap_key_of d s
  map_high e = omega (arith, (v.keys (to Kind.bitmap (bitmap_key_of d s)) (map_reached d s v)).0, e)

  pub map_apart : bitmap_key_of d s ≢ root_of d
  map_apart e =
      not_root_map (one_node (references d s) v.owned (map_reached d s v) (top {n = to Kind.root (root_of d)} refl) e)
    where
      not_root_map : to Kind.bitmap (bitmap_key_of d s) ≡ to Kind.root (root_of d) → ⊥
      not_root_map q = subst (λ r. IsMap r.kind) q tt

  -- ---- the root with v in w78

  module _ (m : ℕ) (fits : m < 2 ^ 32) where
    marks : Repointed s (marked d s m) (root_of d) 78 m
    marks = put_repointed s (root_of d) 78 m root_holds (omega arith) (omega arith) fits

    pub marked_same : SameTree d s (marked d s m)
    marked_same =
        record {
          long = marks.long;
          tag = same_word s (marked d s m) 0 (marks.others 0 root_high) 0 (omega arith);
          root = marks.rest;
          blocks = λ r h p q. marks.others r.key p;
        }

    pub marked_word : word_of (marked d s m) (root_of d) 78 ≡ m
    marked_word = marks.now

    pub marked_others : (j : ℕ) → j ≢ root_of d → SameBlock s (marked d s m) j
    marked_others = marks.others

    pub marked_tree : Tree d (marked d s m)
    marked_tree =
        same_tree d s v (marked d s m) marked_same marks.sum
        (same_sum s (marked d s m) (bitmap_key_of d s) (marks.others (bitmap_key_of d s) map_apart)
        ∙ v.sums (to Kind.bitmap (bitmap_key_of d s)) (map_reached d s v) refl)

  -- ---- a new bitmap block

  module _ (page : List ℕ) (whole : length page ≡ block_bytes) where
    page_others : (j : ℕ) → j ≢ bitmap_key_of d s → SameBlock s (put s (bitmap_key_of d s) page) j
    page_others = put_other s (bitmap_key_of d s) page map_holds whole

    pub mapped_same : SameTree d s (put s (bitmap_key_of d s) page)
    mapped_same =
        record {
          long = length_put s (bitmap_key_of d s) page map_holds whole;
          tag = same_word s (put s (bitmap_key_of d s) page) 0 (page_others 0 map_high) 0 (omega arith);
          root = λ i l n. page_others (root_of d) (λ e. map_apart (sym e)) i l (λ z. z);
          blocks = λ r h p q. page_others r.key q;
        }

    pub mapped_tree : sum_at page 0 ≡ 0 → Tree d (put s (bitmap_key_of d s) page)
    mapped_tree z =
        same_tree d s v (put s (bitmap_key_of d s) page) mapped_same
        (same_sum s (put s (bitmap_key_of d s) page) (root_of d) (page_others (root_of d) (λ e. map_apart (sym e)))
        ∙ v.sums (to Kind.root (root_of d)) (top refl) refl)
        (sum_put s (bitmap_key_of d s) page map_holds whole ∙ z)

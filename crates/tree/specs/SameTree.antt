-- Two images have the same tree: every block that the first reaches has the same bytes in the second, but for w5 and
-- w78 of the root and for the bitmap block. That the same blocks are then reached, by the same references, is the
-- theorem `same_reached`.
use Rattle.std.specs.Prelude.{ℕ, ◌≡◌, ◌≢◌, ◌⊎◌, List, length}
use Rattle.words.specs.Word.{word_at}
use Rattle.reach.specs.References.{Reached}
use Rattle.volume.specs.declared.disk.Disk.{Disk}
use Rattle.volume.specs.Disks.{root_of}
use Rattle.volume.specs.References.{Ref, references}
use Rattle.volume.specs.Law.{bitmap_key_of}
use Rattle.writes.specs.Alike.{Alike, SameBlock}

-- the root's sum, and its word that says whether the bitmap is valid
abbrev pub Mark : ℕ → Type 0
Mark j = (j ≡ 5) ⊎ (j ≡ 78)

pub record SameTree (d : Disk) (s t : List ℕ) : Type 0 where
  pub long : length t ≡ length s
  pub tag : word_at t 0 ≡ word_at s 0
  pub root : Alike Mark s t (root_of d)
  pub blocks : (r : Ref) → Reached (references d s) r → r.key ≢ root_of d → r.key ≢ bitmap_key_of d s
      → SameBlock s t r.key

-- A delete as four writes, each made from the image that those before it leave: the root with w78 = 0; the block that
-- pointed to the entry, which now points to the next entry of its chain; then the two writes of a repair.
use Rattle.std.specs.Prelude.{ℕ, ◌≤◌, ◌<◌, ◌≡◌, ◌↔◌, false, List, ◌∷◌}
use Rattle.volume.specs.declared.disk.Disk.{Disk}
use Rattle.volume.specs.Disks.{first_key}
use Rattle.volume.specs.Blocks.{word_of}
use Rattle.volume.specs.Bitmap.{is_free}
use Rattle.volume.specs.Law.{bitmap_key_of}
use Rattle.writes.specs.Bits.{free_in}
use Rattle.writes.specs.Writes.{Write, write, put, edited}
use Rattle.tree.specs.OwnBlocks.{Own, own_blocks}
use Rattle.tree.specs.Pages.{page_with}
use Rattle.tree.specs.Repairs.{marking, marked, repaired, repair_writes}

-- word w of block p points to entry k; `page` is the new bitmap block
module _ (d : Disk) (s : List ℕ) (p w k : ℕ) where
  -- the new block p
  abbrev pub past_entry : List ℕ
  past_entry = edited (marked d s 0) p w (word_of s k 124)

  -- the image after two writes: k is no longer reached
  abbrev pub unhooked : List ℕ
  unhooked = put (marked d s 0) p past_entry

  abbrev pub delete_writes : List ℕ → List Write
  delete_writes page = marking d s 0 ∷ write p past_entry ∷ repair_writes d unhooked page

  -- the image after all four
  abbrev pub deleted : List ℕ → List ℕ
  deleted page = repaired d unhooked page

-- the new bitmap block: the bits of the entry and of its own blocks are 1
abbrev pub delete_page : Disk → List ℕ → ℕ → List ℕ
delete_page d s k = page_with d s (own_blocks d s k) 1

-- the bit of a block is 0 on the page if and only if it is 0 on image s and the block is not k's
abbrev pub Frees : Disk → List ℕ → ℕ → List ℕ → Type 0
Frees d s k page =
    (j : ℕ) → first_key ≤ j → j < d.blocks
    → (free_in page j ≡ false) ↔ ((is_free s (bitmap_key_of d s) j ≡ false) × ¬ (Own s k j))

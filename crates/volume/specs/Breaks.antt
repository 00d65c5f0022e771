-- What each number says of a block, in the words of the law (docs/FORMAT.md, "Numbers"): for each kind of block a
-- constructor for each number. It names the rule that is broken, and those that hold because they are tested before
-- it.
use Rattle.std.specs.Prelude.{ℕ, ◌≤◌, ◌<◌, ◌≡◌, ◌≢◌, ◌⊎◌, true, false, List, [], ◌∷◌}
use Rattle.answers.specs.Numbers as fault
use Rattle.reach.specs.References.{At, ◌∈◌}
use Rattle.volume.specs.declared.disk.Disk.{Disk}
use Rattle.volume.specs.Disks.{is_old, first_key, root_of, file_limit}
use Rattle.volume.specs.Blocks.{word_of, sum_of, directory, header_type, data_type, soft_link, directory_link}
use Rattle.volume.specs.Blocks.{file_link}
use Rattle.volume.specs.Names.{name_of, name_good, slot_of}
use Rattle.volume.specs.Files.{size_of, blocks_of, keys_of}
use Rattle.volume.specs.Law.{RootKind, RootFixed, OneBitmap, Valid, EntryKind, Entry, KeyCount, ListKind}
use Rattle.volume.specs.Law.{ListBlock, DataBlock}

-- ---- a key: 5 if it lies outside the volume

-- it lies after the boot blocks, in the volume
pub record Inside (d : Disk) (k : ℕ) : Type 0 where
  pub low : first_key ≤ k
  pub high : k < d.blocks

-- ---- the root, block r, up to its name: 7, 8, 4, 11

-- all of it
pub record RootSound (s : List ℕ) (r : ℕ) : Type 0 where
  pub sum : sum_of s r ≡ 0
  pub kind : RootKind s r
  pub fixed : RootFixed s r
  pub name : name_good s r ≡ true

pub data RootBreaks (s : List ℕ) (r v : ℕ) : Type 0 where
  root_7 : sum_of s r ≢ 0 → v ≡ fault.block_sum → RootBreaks s r v
  root_8 : sum_of s r ≡ 0 → (RootKind s r → ⊥) → v ≡ fault.block_type → RootBreaks s r v
  root_4 : sum_of s r ≡ 0 → RootKind s r → (RootFixed s r → ⊥) → v ≡ fault.root_words → RootBreaks s r v
  root_11 : sum_of s r ≡ 0 → RootKind s r → RootFixed s r → name_good s r ≡ false → v ≡ fault.bad_name
      → RootBreaks s r v

-- ---- the root's words beside the bitmap key, w78 or w80 to w104: 16

pub data MapBreaks (d : Disk) (s : List ℕ) (v : ℕ) : Type 0 where
  map_16 : (Valid d s → ⊥) ⊎ (OneBitmap s (root_of d) → ⊥) → v ≡ fault.bitmap_words → MapBreaks d s v

-- ---- the bitmap block, k: 7

pub data BitmapBreaks (s : List ℕ) (k v : ℕ) : Type 0 where
  bitmap_7 : sum_of s k ≢ 0 → v ≡ fault.block_sum → BitmapBreaks s k v

-- ---- an entry, block k, on the chain of slot i of the directory t: 7 to 12

pub record Link (s : List ℕ) (k : ℕ) : Type 0 where
  pub type : word_of s k 0 ≡ header_type
  pub kind : word_of s k 127 ∈ (soft_link ∷ directory_link ∷ file_link ∷ [])

-- own key, parent, and a directory's w126
pub record EntryTies (s : List ℕ) (k t : ℕ) : Type 0 where
  pub own : word_of s k 1 ≡ k
  pub parent : word_of s k 125 ≡ t
  pub link : directory s k ≡ true → word_of s k 126 ≡ 0

-- all of it
pub record EntrySound (d : Disk) (s : List ℕ) (k t i : ℕ) : Type 0 where
  pub sum : sum_of s k ≡ 0
  pub entry : Entry s k
  pub parent : word_of s k 125 ≡ t
  pub link : directory s k ≡ true → word_of s k 126 ≡ 0
  pub slot : slot_of d (name_of s k) ≡ i

pub data EntryBreaks (d : Disk) (s : List ℕ) (k t i v : ℕ) : Type 0 where
  entry_7 : sum_of s k ≢ 0 → v ≡ fault.block_sum → EntryBreaks d s k t i v
  -- no link either
  entry_8 : sum_of s k ≡ 0 → (EntryKind s k → ⊥) → (Link s k → ⊥) → v ≡ fault.block_type → EntryBreaks d s k t i v
  entry_9 : sum_of s k ≡ 0 → Link s k → v ≡ fault.link → EntryBreaks d s k t i v
  entry_10 : sum_of s k ≡ 0 → EntryKind s k → (EntryTies s k t → ⊥) → v ≡ fault.wrong_ties → EntryBreaks d s k t i v
  entry_11 : sum_of s k ≡ 0 → EntryKind s k → EntryTies s k t → name_good s k ≡ false → v ≡ fault.bad_name
      → EntryBreaks d s k t i v
  entry_12 : sum_of s k ≡ 0 → Entry s k → EntryTies s k t → slot_of d (name_of s k) ≢ i → v ≡ fault.wrong_slot
      → EntryBreaks d s k t i v

-- ---- a file, by its header h: 14

-- its size, w2 and w126, and on the old file system w4 of an empty file
pub record HeaderSound (d : Disk) (s : List ℕ) (h : ℕ) : Type 0 where
  pub size : size_of s h ≤ file_limit d
  pub lists : KeyCount s h (blocks_of d s h)
  pub empty : is_old d ≡ true → blocks_of d s h ≡ 0 → word_of s h 4 ≡ 0

pub data HeaderBreaks (d : Disk) (s : List ℕ) (h v : ℕ) : Type 0 where
  header_14 : (HeaderSound d s h → ⊥) → v ≡ fault.file_layout → HeaderBreaks d s h v

-- ---- a list block, k, of the file h, n keys still to come: 7, 8, 10, 14

-- all of it
pub record ListSound (s : List ℕ) (k h n : ℕ) : Type 0 where
  pub sum : sum_of s k ≡ 0
  pub block : ListBlock s h k
  pub lists : KeyCount s k n

pub data ListBreaks (s : List ℕ) (k h n v : ℕ) : Type 0 where
  list_7 : sum_of s k ≢ 0 → v ≡ fault.block_sum → ListBreaks s k h n v
  list_8 : sum_of s k ≡ 0 → (ListKind s k → ⊥) → v ≡ fault.block_type → ListBreaks s k h n v
  list_10 : sum_of s k ≡ 0 → ListKind s k → (ListBlock s h k → ⊥) → v ≡ fault.wrong_ties → ListBreaks s k h n v
  list_14 : sum_of s k ≡ 0 → ListBlock s h k → (KeyCount s k n → ⊥) → v ≡ fault.file_layout → ListBreaks s k h n v

-- ---- data block n of the file h, block k, on the old file system; `named` is the w4 of the block before it: 7, 8, 15

-- data block i, counted from 0, is block k, and c is the data block before it; the header for the first
pub record IsData (d : Disk) (s : List ℕ) (h i k c : ℕ) : Type 0 where
  pub here : At i k (keys_of d s h)
  pub before : At i c (h ∷ keys_of d s h)

-- its words, its key in the w4 before it, and no block named after the last
pub record DataTies (d : Disk) (s : List ℕ) (k h n named : ℕ) : Type 0 where
  pub block : DataBlock d s h n k
  pub here : named ≡ k
  pub last : n ≡ blocks_of d s h → word_of s k 4 ≡ 0

-- all of it
pub record DataSound (d : Disk) (s : List ℕ) (k h n named : ℕ) : Type 0 where
  pub sum : sum_of s k ≡ 0
  pub ties : DataTies d s k h n named

pub data DataBreaks (d : Disk) (s : List ℕ) (k h n named v : ℕ) : Type 0 where
  data_7 : sum_of s k ≢ 0 → v ≡ fault.block_sum → DataBreaks d s k h n named v
  data_8 : sum_of s k ≡ 0 → word_of s k 0 ≢ data_type → v ≡ fault.block_type → DataBreaks d s k h n named v
  data_15 : sum_of s k ≡ 0 → word_of s k 0 ≡ data_type → (DataTies d s k h n named → ⊥) → v ≡ fault.data_layout
      → DataBreaks d s k h n named v

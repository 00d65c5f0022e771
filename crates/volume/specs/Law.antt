-- The law of a volume: one field for each rule of docs/FORMAT.md, "Blocks of a volume". It mentions no walk. What is
-- reached, and that each block is owned once, is said of `references` by crate `reach`. `Tree` is all of the law but
-- w78 and the bits; `Volume` is `Tree`, w78 and the bits.
use Rattle.std.specs.Prelude.{ℕ, zero, suc, ◌-◌, ◌*◌, ◌≤◌, ◌<◌, ◌≡◌, ◌≢◌, ◌⊎◌, ◌↔◌, Bool, true, false, List, [], ◌∷◌}
use Rattle.std.specs.Prelude.{◌++◌, map, length}
use Rattle.words.specs.Word.{word_at}
use Rattle.reach.specs.References.{At, ◌∈◌, Reached, Owned}
use Rattle.volume.specs.declared.disk.Disk.{Disk}
use Rattle.volume.specs.Disks.{is_old, Exists, first_key, image_bytes, tag_of, root_of, file_limit, Names}
use Rattle.volume.specs.Blocks.{slots, word_of, sum_of, slot_word, directory, header_type, list_type, data_type}
use Rattle.volume.specs.Blocks.{root_kind, directory_kind, file_kind}
use Rattle.volume.specs.Names.{folded, slot_of, name_of, name_good}
use Rattle.volume.specs.Files.{held_of, keys_here, size_of, blocks_of, lists_of, keys_of}
use Rattle.volume.specs.Bitmap.{is_free}
use Rattle.volume.specs.References.{Kind, root, bitmap, list, datum, Ref, to, entry, references}

-- ---- the root, block r

-- w80 to w104: there are no further bitmap blocks
abbrev pub OneBitmap : List ℕ → ℕ → Type 0
OneBitmap s r = (i : ℕ) → 80 ≤ i → i ≤ 104 → word_of s r i ≡ 0

pub record RootKind (s : List ℕ) (r : ℕ) : Type 0 where
  pub type : word_of s r 0 ≡ header_type
  pub kind : word_of s r 127 ≡ root_kind

pub record RootFixed (s : List ℕ) (r : ℕ) : Type 0 where
  pub zeros : (i : ℕ) → i ∈ (1 ∷ 2 ∷ 4 ∷ 124 ∷ 125 ∷ 126 ∷ []) → word_of s r i ≡ 0
  pub table : word_of s r 3 ≡ slots

pub record Root (s : List ℕ) (r : ℕ) : Type 0 where
  pub kind : RootKind s r
  pub fixed : RootFixed s r
  pub name : name_good s r ≡ true
  -- w78 is not asked here: see `Valid`
  pub rest : OneBitmap s r

-- ---- an entry, block k: a directory or a file header

pub record EntryKind (s : List ℕ) (k : ℕ) : Type 0 where
  pub type : word_of s k 0 ≡ header_type
  pub kind : (word_of s k 127 ≡ directory_kind) ⊎ (word_of s k 127 ≡ file_kind)

pub record Entry (s : List ℕ) (k : ℕ) : Type 0 where
  pub kind : EntryKind s k
  pub own : word_of s k 1 ≡ k
  pub name : name_good s k ≡ true

-- the key after entry k on its chain; after 0 there is none
unfoldable pub after : List ℕ → ℕ → ℕ
after s zero = 0
after s (suc k) = word_of s (suc k) 124

-- the key at a position of the chain that begins with key k; 0 after its end
unfoldable pub chain_key : List ℕ → ℕ → ℕ → ℕ
chain_key s k zero = k
chain_key s k (suc p) = after s (chain_key s k p)

-- entry k hangs on the chain of slot i of directory t
pub record Hangs (s : List ℕ) (t i k : ℕ) : Type 0 where
  pub slot : i < slots
  pub position : ℕ
  pub there : chain_key s (slot_word s t i) position ≡ k
  pub some : k ≢ 0

-- ---- a directory, block t, the root too

-- w125 of each entry is its key, each hangs in the slot of its own name, and no two have equal folded names
pub record Directory (d : Disk) (s : List ℕ) (t : ℕ) : Type 0 where
  pub parent : (i k : ℕ) → Hangs s t i k → word_of s k 125 ≡ t
  pub slot : (i k : ℕ) → Hangs s t i k → slot_of d (name_of s k) ≡ i
  pub names : (i j k l : ℕ) → Hangs s t i k → Hangs s t j l → folded d (name_of s k) ≡ folded d (name_of s l) → k ≡ l

-- ---- a file, by its header h

-- block b lists keys, n of them still to come
pub record KeyCount (s : List ℕ) (b n : ℕ) : Type 0 where
  pub count : word_of s b 2 ≡ keys_here n
  pub more : (word_of s b 126 ≡ 0) ↔ (n ≤ slots)

pub record ListKind (s : List ℕ) (b : ℕ) : Type 0 where
  pub type : word_of s b 0 ≡ list_type
  pub kind : word_of s b 127 ≡ file_kind

pub record ListBlock (s : List ℕ) (h b : ℕ) : Type 0 where
  pub kind : ListKind s b
  pub own : word_of s b 1 ≡ b
  pub parent : word_of s b 125 ≡ h

-- data block n of the file, counted from 1, on a disk whose data blocks have words of their own
pub record DataBlock (d : Disk) (s : List ℕ) (h n k : ℕ) : Type 0 where
  pub type : word_of s k 0 ≡ data_type
  pub parent : word_of s k 1 ≡ h
  pub number : word_of s k 2 ≡ n
  pub held : word_of s k 3 ≡ held_of d (size_of s h) n

pub record File (d : Disk) (s : List ℕ) (h : ℕ) : Type 0 where
  pub size : size_of s h ≤ file_limit d
  -- the header and the list blocks, one by one
  pub counts : (i b : ℕ) → At i b (h ∷ lists_of d s h) → KeyCount s b (blocks_of d s h - slots * i)
  pub lists : (b : ℕ) → b ∈ lists_of d s h → ListBlock s h b
  -- on the Fast File System nothing more is asked; on the old one, the words of the data blocks,
  pub blocks : is_old d ≡ true → (i k : ℕ) → At i k (keys_of d s h) → DataBlock d s h (suc i) k
  -- and w4 of the header and of each data block is the key of the data block that follows, and 0 in the last
  pub following : is_old d ≡ true → map (λ k. word_of s k 4) (h ∷ keys_of d s h) ≡ keys_of d s h ++ (0 ∷ [])

-- ---- the tree: everything but w78 and the bits

-- whose words add up to 0, by the kind that the reference asks for: of data blocks only those of the old file system
abbrev pub summed : Disk → Kind → Bool
summed d root = true
summed d bitmap = true
summed d entry = true
summed d list = true
summed d datum = is_old d

pub record Tree (d : Disk) (s : List ℕ) : Type 0 where
  pub long : length s ≡ image_bytes d
  pub tag : word_at s 0 ≡ tag_of d
  pub keys : (r : Ref) → Reached (references d s) r → (first_key ≤ r.key) × (r.key < d.blocks)
  pub sums : (r : Ref) → Reached (references d s) r → summed d r.kind ≡ true → sum_of s r.key ≡ 0
  pub top : Root s (root_of d)
  pub entries : (k : ℕ) → Reached (references d s) (to entry k) → Entry s k
  pub holds : Directory d s (root_of d)
  pub directories : (k : ℕ) → Reached (references d s) (to entry k) → directory s k ≡ true
      → (word_of s k 126 ≡ 0) × Directory d s k
  pub files : (k : ℕ) → Reached (references d s) (to entry k) → directory s k ≡ false → File d s k
  pub owned : Owned (references d s)

-- ---- the bitmap

-- the root says that the bitmap is valid
abbrev pub Valid : Disk → List ℕ → Type 0
Valid d s = word_of s (root_of d) 78 ≡ 0xFFFFFFFF

-- the key of the bitmap block
abbrev pub bitmap_key_of : Disk → List ℕ → ℕ
bitmap_key_of d s = word_of s (root_of d) 79

-- block k is reached
abbrev pub Used : Disk → List ℕ → ℕ → Type 0
Used d s k = (r : Ref) × Reached (references d s) r × (r.key ≡ k)

-- the bit of block k is 0 if and only if k is reached
abbrev pub BitRight : Disk → List ℕ → ℕ → Type 0
BitRight d s k = (is_free s (bitmap_key_of d s) k ≡ false) ↔ Used d s k

-- ---- the volume

-- of a disk
pub record Volume (d : Disk) (s : List ℕ) : Type 0 where
  pub tree : Tree d s
  pub valid : Valid d s
  pub bits : (k : ℕ) → first_key ≤ k → k < d.blocks → BitRight d s k

-- of a disk that exists and that the number b of a call names
abbrev pub IsVolume : ℕ → List ℕ → Type 0
IsVolume b s = (d : Disk) × Exists d × Names b d × Volume d s

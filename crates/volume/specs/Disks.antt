-- A disk has a number of blocks and a kind, the last byte of its boot tag. All its other numbers follow from these
-- two (docs/FORMAT.md, "What is built"): nothing above this file knows them as numbers, but `Numerals`.
use Rattle.std.specs.Prelude.{ℕ, ◌+◌, ◌-◌, ◌*◌, ◌/◌, ◌%◌, ◌≤◌, ◌≡◌, ◌≢◌, ◌⊎◌, Bool, false, List, [], ◌∷◌, eqb, ltb}
use Rattle.std.specs.Prelude.{length}
use Rattle.answers.specs.Members.{◌∈◌, has}
use Rattle.answers.specs.Tests.{pick}
use Rattle.words.specs.Word.{four, word_at}
use Rattle.volume.specs.declared.disk.Disk.{Disk}
use Rattle.volume.specs.Blocks.{block_bytes, data_room}

-- ---- kinds, each by the last byte of its boot tag

-- the old file system
abbrev pub old : ℕ
old = 0

-- the Fast File System
abbrev pub fast : ℕ
fast = 1

-- the same two, with letters with accents folded as well
abbrev pub old_international : ℕ
old_international = 2

abbrev pub fast_international : ℕ
fast_international = 3

abbrev pub kinds : List ℕ
kinds = old ∷ fast ∷ old_international ∷ fast_international ∷ []

-- ---- what a kind decides: two things, each by itself

-- a disk of the old file system: its data blocks have words of their own, before the bytes of the file
unfoldable pub is_old : Disk → Bool
is_old d = has (old ∷ old_international ∷ []) d.kind

-- letters with accents are folded
unfoldable pub folds_accents : Disk → Bool
folds_accents d = has (old_international ∷ fast_international ∷ []) d.kind

-- ---- sizes, each by its number of blocks

-- 880 KB
abbrev pub double_density : ℕ
double_density = 1760

-- 1,760 KB
abbrev pub high_density : ℕ
high_density = 3520

abbrev pub sizes : List ℕ
sizes = double_density ∷ high_density ∷ []

-- a disk that exists, which is of such a size and kind
pub record Exists (d : Disk) : Type 0 where
  pub size : d.blocks ∈ sizes
  pub kind : d.kind ∈ kinds

-- ---- a disk's numbers

-- the two boot blocks have no key
abbrev pub first_key : ℕ
first_key = 2

-- one bitmap block has 127 words of bits, for the blocks after the boot blocks
abbrev pub most_blocks : ℕ
most_blocks = first_key + 32 * 127

-- the disks of which the code is proved: boot blocks, root, bitmap block and a file fit, and one bitmap block serves
-- them
pub record Sized (d : Disk) : Type 0 where
  pub least : 8 ≤ d.blocks
  pub most : d.blocks ≤ most_blocks

abbrev pub image_bytes : Disk → ℕ
image_bytes d = d.blocks * block_bytes

-- a claim byte for each block
abbrev pub claim_bytes : Disk → ℕ
claim_bytes d = d.blocks

-- "DOS" and the kind
abbrev pub tag_of : Disk → ℕ
tag_of d = four 68 79 83 d.kind

abbrev pub root_of : Disk → ℕ
root_of d = d.blocks / 2

unfoldable pub in_range : Disk → ℕ → Bool
in_range d k = pick (ltb k first_key) false (ltb k d.blocks)

-- how many blocks have a bit in the bitmap: used and free together
abbrev pub bit_span : Disk → ℕ
bit_span d = d.blocks - first_key

-- a chain has at most an entry for each block but the boot blocks, the root and the bitmap block
abbrev pub chain_limit : Disk → ℕ
chain_limit d = d.blocks - 4

-- how many bytes of a file a data block holds: all of its bytes, but for words of its own
unfoldable pub data_bytes : Disk → ℕ
data_bytes d = pick (is_old d) data_room block_bytes

-- the byte of a data block at which they begin
unfoldable pub data_start : Disk → ℕ
data_start d = block_bytes - data_bytes d

-- a file has at most a data block for each block but the boot blocks, the root, the bitmap block and its header
abbrev pub file_limit : Disk → ℕ
file_limit d = (d.blocks - 5) * data_bytes d

-- ---- the disk of an image

-- a call names a number of blocks, or none by this number
abbrev pub any_size : ℕ
any_size = 0

-- the size that image s has by its length. Where that is of no size, `double_density` is taken: an image of that size
-- has another length, so this one is refused by 1.
unfoldable pub size_in : List ℕ → ℕ
size_in s = pick (eqb (length s) (high_density * block_bytes)) high_density double_density

unfoldable pub other_size : ℕ → ℕ
other_size b = pick (eqb b double_density) high_density double_density

-- the size for a call that names b: the image's own, where it is named or none is. Else the other one: the image does
-- not have its length, so it is refused by 1.
unfoldable pub size_for : ℕ → List ℕ → ℕ
size_for b s = pick (has (any_size ∷ size_in s ∷ []) b) (size_in s) (other_size (size_in s))

-- the last byte of the first word of image s
abbrev pub tag_byte : List ℕ → ℕ
tag_byte s = word_at s 0 % 256

-- the kind that it names. Where it names none, `old` is taken: that kind has another tag, so the image is refused by 3.
unfoldable pub kind_in : List ℕ → ℕ
kind_in s = pick (has kinds (tag_byte s)) (tag_byte s) old

-- what every call that is lent image s and names b takes it for
abbrev pub disk_of : ℕ → List ℕ → Disk
disk_of b s = record { blocks = size_for b s; kind = kind_in s }

-- ---- when it is refused by 1 or 3

-- the number b of a call is that of the disk's blocks, or names none
abbrev pub Names : ℕ → Disk → Type 0
Names b d = (b ≡ any_size) ⊎ (b ≡ d.blocks)

-- a disk that exists, is named and is as long as the image
pub record Fits (b : ℕ) (s : List ℕ) (d : Disk) : Type 0 where
  pub exists : Exists d
  pub named : Names b d
  pub long : length s ≡ image_bytes d

abbrev pub Unfit : ℕ → List ℕ → Type 0
Unfit b s = (d : Disk) → Fits b s d → ⊥

-- the first word of image s is the boot tag of no disk
abbrev pub NoTag : List ℕ → Type 0
NoTag s = (d : Disk) → Exists d → word_at s 0 ≢ tag_of d

-- What an audit's answer means, said of blocks, kinds and bits (docs/FORMAT.md, "Order of the walk" and "Numbers"):
-- the six numbers of a report, the claim area after it, and the cause of each refusal.
use Rattle.std.specs.Prelude.{ℕ, zero, suc, ◌+◌, ◌≤◌, ◌<◌, ◌≡◌, ◌≢◌, ◌⊎◌, List, map, eqb, length, get_or}
use Rattle.answers.specs.Numbers as fault
use Rattle.answers.specs.Tests.{pick}
use Rattle.words.specs.Word.{word_at}
use Rattle.reach.specs.References.{◌∈◌, Uniq, Reached}
use Rattle.volume.specs.declared.disk.Disk.{Disk}
use Rattle.volume.specs.Disks.{first_key, bit_span, image_bytes, claim_bytes, tag_of}
use Rattle.volume.specs.Bitmap.{is_free}
use Rattle.volume.specs.References.{Ref, references}
use Rattle.volume.specs.Law.{Tree, Valid, bitmap_key_of, Used, BitRight}
use Rattle.walk.specs.Reports.{count, is_directory, is_file, is_list, is_data}
use Rattle.walk.specs.Refusals.{FirstRefusal}
use Rattle.audit.specs.declared.audit.Report.{Report}

-- how many of the n blocks from block k on the bitmap block `bitmap_key` calls free
unfoldable pub free_from : List ℕ → ℕ → ℕ → ℕ → ℕ
free_from s bitmap_key k zero = 0
free_from s bitmap_key k (suc n) =
    pick (is_free s bitmap_key k) (suc (free_from s bitmap_key (suc k) n)) (free_from s bitmap_key (suc k) n)

-- ---- accepted

-- the six numbers
pub record Reported (d : Disk) (s : List ℕ) (p : Report) : Type 0 where
  -- what is reached, no key twice
  pub reached : List Ref
  pub all : (r : Ref) → Reached (references d s) r → r ∈ reached
  pub only : (r : Ref) → r ∈ reached → Reached (references d s) r
  pub keys : Uniq (map (λ r. r.key) reached)
  -- of these, how many of each kind, and all
  pub directories : p.directories ≡ count (is_directory s) reached
  pub files : p.files ≡ count (is_file s) reached
  pub lists : p.lists ≡ count is_list reached
  pub blocks : p.blocks ≡ count is_data reached
  pub used : p.used ≡ length reached
  -- the free blocks: together these are all but the boot blocks
  pub free : p.free ≡ free_from s (bitmap_key_of d s) first_key (bit_span d)
  pub whole : p.used + p.free ≡ bit_span d

-- a claim area of n bytes: 1 for each block that is reached, and 0 elsewhere, also after the last block
pub record Claimed (d : Disk) (s : List ℕ) (n : ℕ) (claim : List ℕ) : Type 0 where
  pub size : length claim ≡ n
  pub byte : (k : ℕ) → ((get_or claim k 0 ≡ 1) × Used d s k) ⊎ ((get_or claim k 0 ≡ 0) × (¬ Used d s k))

-- ---- refused

-- k is the lowest block whose bit is wrong: free though it is reached, or in use though it is not
pub record FirstWrong (d : Disk) (s : List ℕ) (k : ℕ) : Type 0 where
  pub low : first_key ≤ k
  pub high : k < d.blocks
  pub wrong : BitRight d s k → ⊥
  pub before : (j : ℕ) → first_key ≤ j → j < k → BitRight d s j

-- what is tested before the walk
pub record Opened (d : Disk) (s : List ℕ) (n : ℕ) : Type 0 where
  pub long : length s ≡ image_bytes d
  pub room : claim_bytes d ≤ n
  pub tag : word_at s 0 ≡ tag_of d

-- the five tests, in order, and which of them refuses with the number v
pub data Test : Type 0 where
  size area tag walk bits : Test

abbrev pub test_of : ℕ → Test
test_of v =
    pick (eqb v fault.image_length) size
    (pick (eqb v fault.claim_area) area (pick (eqb v fault.boot_tag) tag (pick (eqb v fault.wrong_bit) bits walk)))

-- of an image s and a claim area of n bytes: when a test refuses with v at place k
abbrev pub Says : Disk → List ℕ → ℕ → ℕ → ℕ → Test → Type 0
Says d s n v k size = (k ≡ 0) × (length s ≢ image_bytes d)
Says d s n v k area = (k ≡ 0) × (length s ≡ image_bytes d) × (n < claim_bytes d)
Says d s n v k tag = (k ≡ 0) × (length s ≡ image_bytes d) × (claim_bytes d ≤ n) × (word_at s 0 ≢ tag_of d)
Says d s n v k walk = Opened d s n × FirstRefusal d s v k
Says d s n v k bits = (claim_bytes d ≤ n) × Tree d s × Valid d s × FirstWrong d s k

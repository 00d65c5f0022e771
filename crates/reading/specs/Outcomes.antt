-- What a read's answer says, in the words of the law: when bytes are given, and how many; what the output holds
-- then; and why a read is refused, with which number at which block (docs/FORMAT.md, "Paths and reads" and
-- "Numbers").
use Rattle.std.specs.Prelude.{ℕ, suc, ◌+◌, ◌-◌, ◌*◌, ◌/◌, ◌≤◌, ◌<◌, min, ◌≡◌, true, List, length, get_or, Ok, Err}
use Rattle.reach.specs.References.{At, ◌∈◌}
use Rattle.answers.specs.Numbers as fault
use Rattle.answers.specs.Refusals.{refusal}
use Rattle.volume.specs.declared.disk.Disk.{Disk}
use Rattle.volume.specs.Disks.{is_old}
use Rattle.volume.specs.Blocks.{slots, word_of, sum_of}
use Rattle.volume.specs.Files.{blocks_of, lists_of, keys_of}
use Rattle.volume.specs.References.{Kind, list, datum}
use Rattle.volume.specs.Law.{File, summed}
use Rattle.volume.specs.Breaks.{IsData, Inside, HeaderSound, HeaderBreaks, ListSound, ListBreaks, DataSound}
use Rattle.volume.specs.Breaks.{DataBreaks}
use Rattle.lookup.specs.declared.find.Found.TheVariants as found
use Rattle.lookup.specs.Lookup.{find_of}
use Rattle.reading.specs.Reads.{last_component}

-- ---- a file whose blocks pass their tests

-- a block of a kind that lies after the boot blocks, in the volume, and whose sum is 0 if blocks of that kind have one
pub record Intact (d : Disk) (s : List ℕ) (a : Kind) (k : ℕ) : Type 0 where
  pub inside : Inside d k
  pub sum : summed d a ≡ true → sum_of s k ≡ 0

-- it is as the law says, with all of its blocks
pub record FileWhole (d : Disk) (s : List ℕ) (h : ℕ) : Type 0 where
  pub file : File d s h
  pub lists : (k : ℕ) → k ∈ lists_of d s h → Intact d s list k
  pub keys : (k : ℕ) → k ∈ keys_of d s h → Intact d s datum k

-- ---- bytes are given

-- into room for n bytes m are copied: the path leads to a file that is whole, and the room or the file ends there
pub record Gives (d : Disk) (s path : List ℕ) (o n m : ℕ) : Type 0 where
  pub key : ℕ
  pub size : ℕ
  pub compared : ℕ
  pub found : find_of d s path ≡ Ok (found.File key size compared)
  pub whole : FileWhole d s key
  pub count : m ≡ min n (size - o)

-- the first m bytes of the output are those from o on, the rest are as before
pub record Filled (bytes : List ℕ) (o : ℕ) (before : List ℕ) (m : ℕ) (after : List ℕ) : Type 0 where
  pub kept : length after ≡ length before
  pub room : m ≤ length before
  pub there : (i : ℕ) → i < m → o + i < length bytes
  pub copied : (i : ℕ) → i < m → get_or after i 0 ≡ get_or bytes (o + i) 0
  pub rest : (i : ℕ) → m ≤ i → get_or after i 0 ≡ get_or before i 0

-- ---- the blocks of the file h

-- it is as the law says, which asks for words on the old file system alone
pub record GoodData (d : Disk) (s : List ℕ) (h i k c : ℕ) : Type 0 where
  pub inside : Inside d k
  pub sound : is_old d ≡ true → DataSound d s k h (suc i) (word_of s c 4)

-- or it is not: 5, or on the old file system 7, 8, 15 as each of them says
pub data BadData (d : Disk) (s : List ℕ) (h i k c v : ℕ) : Type 0 where
  data_key : (Inside d k → ⊥) → v ≡ fault.bad_key → BadData d s h i k c v
  data_itself : Inside d k → is_old d ≡ true → DataBreaks d s k h (suc i) (word_of s c 4) v → BadData d s h i k c v

-- list block j, from 0, is block k, and as the law says: the keys still to come are those after the header's and
-- the earlier list blocks'
pub record GoodList (d : Disk) (s : List ℕ) (h j k : ℕ) : Type 0 where
  pub inside : Inside d k
  pub sound : ListSound s k h (blocks_of d s h - slots * suc j)

-- or it is not: 5, or 7, 8, 10, 14 as each of them says
pub data BadList (d : Disk) (s : List ℕ) (h j k v : ℕ) : Type 0 where
  list_key : (Inside d k → ⊥) → v ≡ fault.bad_key → BadList d s h j k v
  list_itself : Inside d k → ListBreaks s k h (blocks_of d s h - slots * suc j) v → BadList d s h j k v

-- its first n data blocks and its first m list blocks are good
pub record BlocksGood (d : Disk) (s : List ℕ) (h n m : ℕ) : Type 0 where
  pub keys : (i k c : ℕ) → i < n → IsData d s h i k c → GoodData d s h i k c
  pub lists : (j k : ℕ) → j < m → At j k (lists_of d s h) → GoodList d s h j k

-- Block k is its first bad one, by number v. A list block comes after all data blocks that those before it list,
-- and before its own.
pub data Fails (d : Disk) (s : List ℕ) (h v k : ℕ) : Type 0 where
  at_data : (i c : ℕ) → IsData d s h i k c → BlocksGood d s h i (i / slots) → BadData d s h i k c v → Fails d s h v k
  at_list : (j : ℕ) → At j k (lists_of d s h) → BlocksGood d s h (slots * suc j) j → BadList d s h j k v
      → Fails d s h v k

-- ---- a refusal

-- the path leads to no file; or the file's header breaks the law, 14; or its header is good and another of its
-- blocks is not
pub data Refuses (d : Disk) (s path : List ℕ) (v k : ℕ) : Type 0 where
  of_lookup : find_of d s path ≡ Err (refusal v k) → Refuses d s path v k
  of_directory : (t c : ℕ) → find_of d s path ≡ Ok (found.Directory t c) → v ≡ fault.wrong_kind
      → k ≡ last_component path → Refuses d s path v k
  of_header : (z c : ℕ) → find_of d s path ≡ Ok (found.File k z c) → HeaderBreaks d s k v → Refuses d s path v k
  of_block : (h z c : ℕ) → find_of d s path ≡ Ok (found.File h z c) → HeaderSound d s h → Fails d s h v k
      → Refuses d s path v k

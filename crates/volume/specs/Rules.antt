-- The tests of one block of each kind, in the order in which they are made, each with its number (docs/FORMAT.md,
-- "Order of the walk" and "Numbers"). What a block is asked as, and by whom, comes as arguments; 5, 6 and 13 belong
-- to the walk.
use Rattle.std.specs.Prelude.{ℕ, zero, suc, Bool, true, false, List, [], ◌∷◌, ◌++◌, leb, eqb}
use Rattle.volume.specs.declared.disk.Disk.{Disk}
use Rattle.answers.specs.Numbers as fault
use Rattle.answers.specs.Tests.{pick, must, never, tests}
use Rattle.volume.specs.Disks.{is_old, root_of, file_limit}
use Rattle.volume.specs.Blocks.{slots, word_of, sum_of, directory, header_type, list_type, data_type, root_kind}
use Rattle.volume.specs.Blocks.{file_kind, soft_link, directory_link, file_link}
use Rattle.volume.specs.Names.{name_of, name_good, slot_of}
use Rattle.volume.specs.Files.{data_blocks, held_of, keys_here, size_of, blocks_of}

-- ---- the root, up to its name

abbrev pub root_types : List ℕ → ℕ → List ℕ
root_types s r =
    must (eqb (sum_of s r) 0) fault.block_sum
    ∷ must (eqb (word_of s r 0) header_type) fault.block_type
    ∷ must (eqb (word_of s r 127) root_kind) fault.block_type
    ∷ []

abbrev pub root_words : List ℕ → ℕ → List ℕ
root_words s r =
    must (eqb (word_of s r 1) 0) fault.root_words
    ∷ must (eqb (word_of s r 2) 0) fault.root_words
    ∷ must (eqb (word_of s r 3) slots) fault.root_words
    ∷ must (eqb (word_of s r 4) 0) fault.root_words
    ∷ must (eqb (word_of s r 124) 0) fault.root_words
    ∷ must (eqb (word_of s r 125) 0) fault.root_words
    ∷ must (eqb (word_of s r 126) 0) fault.root_words
    ∷ []

abbrev pub root_rules : List ℕ → ℕ → List ℕ
root_rules s r = root_types s r ++ (root_words s r ++ (must (name_good s r) fault.bad_name ∷ []))

unfoldable pub root_fault : Disk → List ℕ → ℕ
root_fault d s = tests (root_rules s (root_of d))

-- ---- the root's bitmap words

-- the n words of block k from w(i) on are 0
unfoldable pub all_zero : List ℕ → ℕ → ℕ → ℕ → Bool
all_zero s k i zero = true
all_zero s k i (suc n) = pick (eqb (word_of s k i) 0) (all_zero s k (suc i) n) false

abbrev pub map_rules : List ℕ → ℕ → List ℕ
map_rules s r =
    must (eqb (word_of s r 78) 0xFFFFFFFF) fault.bitmap_words
    ∷ must (all_zero s r 80 25) fault.bitmap_words
    ∷ []

unfoldable pub map_fault : Disk → List ℕ → ℕ
map_fault d s = tests (map_rules s (root_of d))

-- ---- the bitmap block

unfoldable pub bitmap_fault : List ℕ → ℕ → ℕ
bitmap_fault s k = must (eqb (sum_of s k) 0) fault.block_sum

-- ---- an entry, block k, on the chain of a slot of the directory t

abbrev pub entry_types : List ℕ → ℕ → List ℕ
entry_types s k =
    must (eqb (sum_of s k) 0) fault.block_sum
    ∷ must (eqb (word_of s k 0) header_type) fault.block_type
    ∷ never (eqb (word_of s k 127) soft_link) fault.link
    ∷ never (eqb (word_of s k 127) directory_link) fault.link
    ∷ never (eqb (word_of s k 127) file_link) fault.link
    ∷ pick (directory s k) 0 (must (eqb (word_of s k 127) file_kind) fault.block_type)
    ∷ []

abbrev pub entry_words : List ℕ → ℕ → ℕ → List ℕ
entry_words s k t =
    must (eqb (word_of s k 1) k) fault.wrong_ties
    ∷ must (eqb (word_of s k 125) t) fault.wrong_ties
    ∷ pick (directory s k) (must (eqb (word_of s k 126) 0) fault.wrong_ties) 0
    ∷ []

abbrev pub entry_name : Disk → List ℕ → ℕ → ℕ → List ℕ
entry_name d s k slot =
    must (name_good s k) fault.bad_name
    ∷ must (eqb (slot_of d (name_of s k)) slot) fault.wrong_slot
    ∷ []

unfoldable pub entry_fault : Disk → List ℕ → ℕ → ℕ → ℕ → ℕ
entry_fault d s k t slot = tests (entry_types s k ++ (entry_words s k t ++ entry_name d s k slot))

-- ---- a block that lists keys, n of them still to come

abbrev pub count_rules : List ℕ → ℕ → ℕ → List ℕ
count_rules s k n =
    must (eqb (word_of s k 2) (keys_here n)) fault.file_layout
    ∷ pick (leb n slots) (must (eqb (word_of s k 126) 0) fault.file_layout)
    (never (eqb (word_of s k 126) 0) fault.file_layout)
    ∷ []

-- ---- a file's own tests, of its header k

-- an empty file of the old file system names no first data block
abbrev pub empty_rule : Disk → List ℕ → ℕ → ℕ → ℕ
empty_rule d s k n = pick (is_old d) (pick (eqb n 0) (must (eqb (word_of s k 4) 0) fault.file_layout) 0) 0

abbrev pub empty_rules : Disk → List ℕ → ℕ → ℕ → List ℕ
empty_rules d s k n = empty_rule d s k n ∷ []

unfoldable pub file_fault : Disk → List ℕ → ℕ → ℕ
file_fault d s k =
    tests
    (must (leb (size_of s k) (file_limit d)) fault.file_layout
    ∷ (count_rules s k (blocks_of d s k) ++ empty_rules d s k (blocks_of d s k)))

-- ---- a list block of the file h

abbrev pub list_words : List ℕ → ℕ → ℕ → List ℕ
list_words s k h =
    must (eqb (sum_of s k) 0) fault.block_sum
    ∷ must (eqb (word_of s k 0) list_type) fault.block_type
    ∷ must (eqb (word_of s k 127) file_kind) fault.block_type
    ∷ must (eqb (word_of s k 1) k) fault.wrong_ties
    ∷ must (eqb (word_of s k 125) h) fault.wrong_ties
    ∷ []

unfoldable pub list_fault : List ℕ → ℕ → ℕ → ℕ → ℕ
list_fault s k h n = tests (list_words s k h ++ count_rules s k n)

-- ---- data block n of the file h, of z bytes; `named` is the w4 of the block before it. Only the old file system has
-- tests of it.

abbrev pub data_words : Disk → List ℕ → ℕ → ℕ → ℕ → ℕ → List ℕ
data_words d s k h z n =
    must (eqb (sum_of s k) 0) fault.block_sum
    ∷ must (eqb (word_of s k 0) data_type) fault.block_type
    ∷ must (eqb (word_of s k 1) h) fault.data_layout
    ∷ must (eqb (word_of s k 2) n) fault.data_layout
    ∷ must (eqb (word_of s k 3) (held_of d z n)) fault.data_layout
    ∷ []

abbrev pub data_links : Disk → List ℕ → ℕ → ℕ → ℕ → ℕ → List ℕ
data_links d s k z n named =
    must (eqb named k) fault.data_layout
    ∷ pick (eqb n (data_blocks d z)) (must (eqb (word_of s k 4) 0) fault.data_layout) 0
    ∷ []

abbrev pub data_rules : Disk → List ℕ → ℕ → ℕ → ℕ → ℕ → ℕ → List ℕ
data_rules d s k h z n named = data_words d s k h z n ++ data_links d s k z n named

unfoldable pub data_fault : Disk → List ℕ → ℕ → ℕ → ℕ → ℕ → ℕ → ℕ
data_fault d s k h z n named = pick (is_old d) (tests (data_rules d s k h z n named)) 0

-- The numbers of refusals, by name (docs/FORMAT.md, "Numbers"). Files that use them say `fault.block_sum`.
use Rattle.std.specs.Prelude.{ℕ}

-- ---- an image

-- the image is not as long as its disk
abbrev pub image_length : ℕ
image_length = 1

-- the claim area is too short
abbrev pub claim_area : ℕ
claim_area = 2

-- the boot tag is another
abbrev pub boot_tag : ℕ
boot_tag = 3

-- ---- a block

-- a fixed word of the root
abbrev pub root_words : ℕ
root_words = 4

-- a key outside the volume
abbrev pub bad_key : ℕ
bad_key = 5

-- a block that is claimed already; in a lookup, a chain that is too long
abbrev pub claimed_twice : ℕ
claimed_twice = 6

-- the words of a block do not add up to 0
abbrev pub block_sum : ℕ
block_sum = 7

-- the types of a block
abbrev pub block_type : ℕ
block_type = 8

-- an entry that is a link
abbrev pub link : ℕ
link = 9

-- own key, parent, or w126 of a directory
abbrev pub wrong_ties : ℕ
wrong_ties = 10

-- a name that may not be one
abbrev pub bad_name : ℕ
bad_name = 11

-- an entry in another slot than its name's
abbrev pub wrong_slot : ℕ
wrong_slot = 12

-- a name that an earlier entry of the directory has
abbrev pub double_name : ℕ
double_name = 13

-- size, count or links of a file
abbrev pub file_layout : ℕ
file_layout = 14

-- the words of a data block, or its key
abbrev pub data_layout : ℕ
data_layout = 15

-- the root's words beside the bitmap key
abbrev pub bitmap_words : ℕ
bitmap_words = 16

-- a bit of the bitmap
abbrev pub wrong_bit : ℕ
wrong_bit = 17

-- ---- a path

-- the form of a path
abbrev pub path_form : ℕ
path_form = 18

-- no entry has the name
abbrev pub not_found : ℕ
not_found = 19

-- a file used as a directory, or a directory that is read
abbrev pub wrong_kind : ℕ
wrong_kind = 20

-- ---- a program file

-- a program file that is empty or not made of words
abbrev pub file_length : ℕ
file_length = 30

-- a word that is needed after the end
abbrev pub early_end : ℕ
early_end = 31

-- a word of the header
abbrev pub header_word : ℕ
header_word = 32

-- a library is named
abbrev pub library : ℕ
library = 33

-- a hunk's size
abbrev pub hunk_size : ℕ
hunk_size = 34

-- a block type that may not stand there
abbrev pub misplaced_block : ℕ
misplaced_block = 35

-- a body that is longer than its hunk
abbrev pub body_length : ℕ
body_length = 36

-- the type of a symbol
abbrev pub symbol_type : ℕ
symbol_type = 37

-- a hunk number or an offset
abbrev pub bad_target : ℕ
bad_target = 38

-- a word after the last hunk
abbrev pub trailing_words : ℕ
trailing_words = 39

-- ---- a load or a move

-- a list of bases
abbrev pub bad_base : ℕ
bad_base = 40

-- memory, table or work area
abbrev pub short_room : ℕ
short_room = 41

-- a target too near an earlier one of its hunk
abbrev pub near_targets : ℕ
near_targets = 42

-- ---- a program file, numbered later

-- a hunk that asks for chip and fast memory at once
abbrev pub both_memories : ℕ
both_memories = 43

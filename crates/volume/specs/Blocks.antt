-- A block is 128 words, w0 to w127; 72 of them are hash slots, or keys of data blocks (docs/FORMAT.md, "What is
-- built", "Blocks of a volume").
use Rattle.std.specs.Prelude.{ℕ, ◌+◌, ◌-◌, ◌*◌, ◌≤◌, Bool, List, eqb, length}
use Rattle.words.specs.Word.{word_at}
use Rattle.words.specs.Sum.{block_words, sum_at}

abbrev pub block_bytes : ℕ
block_bytes = 4 * block_words

-- hash slots of a directory, and data keys of a header or a list block
abbrev pub slots : ℕ
slots = 72

-- bytes of a file in a data block that has words of its own
abbrev pub data_room : ℕ
data_room = 488

-- block k lies in the image s
abbrev pub Holds : List ℕ → ℕ → Type 0
Holds s k = k * block_bytes + block_bytes ≤ length s

-- word i of block k
abbrev pub word_of : List ℕ → ℕ → ℕ → ℕ
word_of s k i = word_at s (k * block_bytes + 4 * i)

-- the sum of block k
abbrev pub sum_of : List ℕ → ℕ → ℕ
sum_of s k = sum_at s (k * block_bytes)

-- slots go upward from w6
abbrev pub slot_word : List ℕ → ℕ → ℕ → ℕ
slot_word s k i = word_of s k (6 + i)

-- data keys go downward from w77
abbrev pub key_word : List ℕ → ℕ → ℕ → ℕ
key_word s k i = word_of s k (77 - i)

-- ---- types, in w0

abbrev pub header_type : ℕ
header_type = 2

abbrev pub list_type : ℕ
list_type = 16

abbrev pub data_type : ℕ
data_type = 8

-- ---- kinds, in w127

abbrev pub root_kind : ℕ
root_kind = 1

abbrev pub directory_kind : ℕ
directory_kind = 2

-- also a list block's
abbrev pub file_kind : ℕ
file_kind = 0xFFFFFFFD

abbrev pub soft_link : ℕ
soft_link = 3

abbrev pub directory_link : ℕ
directory_link = 4

abbrev pub file_link : ℕ
file_link = 0xFFFFFFFC

-- w127 tells a directory from a file
abbrev pub directory : List ℕ → ℕ → Bool
directory s k = eqb (word_of s k 127) directory_kind

-- The words that begin the parts of a program file, its limits, and the kinds of memory, by name (docs/FORMAT.md,
-- "The program file").
-- Files that use them say `type.code`.
use Rattle.std.specs.Prelude.{ℕ}

-- the file's first word
abbrev pub header : ℕ
header = 0x3F3

-- the blocks of a hunk
abbrev pub name : ℕ
name = 0x3E8

abbrev pub code : ℕ
code = 0x3E9

abbrev pub stores : ℕ
stores = 0x3EA

abbrev pub bss : ℕ
bss = 0x3EB

abbrev pub relocation : ℕ
relocation = 0x3EC

abbrev pub symbols : ℕ
symbols = 0x3F0

abbrev pub debug : ℕ
debug = 0x3F1

abbrev pub end : ℕ
end = 0x3F2

-- the most hunks of a file, and the most words of a hunk
abbrev pub most_hunks : ℕ
most_hunks = 64

abbrev pub largest_hunk : ℕ
largest_hunk = 65536

-- the kinds of memory that a hunk may ask for
abbrev pub any_memory : ℕ
any_memory = 0

abbrev pub chip_memory : ℕ
chip_memory = 1

abbrev pub fast_memory : ℕ
fast_memory = 2

-- What the header says of a hunk in its size word: the size, and the kind of memory that it asks for (docs/FORMAT.md,
-- "The program file").
use Rattle.std.specs.Prelude.{ℕ, ◌+◌, ◌*◌, ◌/◌, ◌%◌, ◌^◌, ◌≤◌, ◌≡◌, ◌⊎◌, ltb, leb}
use Rattle.answers.specs.Numbers as fault
use Rattle.answers.specs.Tests.{pick, must}
use Rattle.program.specs.Types as type

-- the size in words, and the kind of memory
pub record Space : Type 0 where
  pub size : ℕ
  pub memory : ℕ

-- written as a size word: the size in bits 0 to 29; bit 30 asks for chip memory, bit 31 for fast memory
abbrev pub space_word : Space → ℕ
space_word s = s.size + 2 ^ 30 * s.memory

-- read from a size word
abbrev pub space_in : ℕ → Space
space_in w = record { size = w % 2 ^ 30; memory = w / 2 ^ 30 }

-- a kind of memory: any, chip or fast; 3, both bits at once, is none
abbrev pub MemoryKind : ℕ → Type 0
MemoryKind m = (m ≡ type.any_memory) ⊎ (m ≡ type.chip_memory) ⊎ (m ≡ type.fast_memory)

-- within the limits
pub record SpaceFits (s : Space) : Type 0 where
  pub memory : MemoryKind s.memory
  pub size : s.size ≤ type.largest_hunk

-- the fault of a space, or 0: a number above that of fast memory has both bits
abbrev pub space_fault : Space → ℕ
space_fault s =
    pick (ltb type.fast_memory s.memory) fault.both_memories
    (must (leb s.size type.largest_hunk) fault.hunk_size)

-- bit n of a word
abbrev pub bit : ℕ → ℕ → ℕ
bit n w = w / 2 ^ n % 2

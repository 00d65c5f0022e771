-- The hunk table as structs: the record of each hunk, in their order, and after them what stood there
-- (docs/FORMAT.md, "The program file").
use Rattle.std.specs.Prelude.{ℕ, zero, suc, ◌+◌, ◌*◌, List, [], ◌∷◌, ◌++◌, get_or, drop}
use Rattle.program.specs.Header.{total_of}
use Rattle.loader.specs.Table.{record_of, record_length, records_of}
use Rattle.hunks.specs.declared.Hunk.{Hunk}

-- record i of numbers
abbrev pub record_at : List ℕ → ℕ → Hunk
record_at numbers i =
    record {
      kind = get_or numbers (record_length * i) 0;
      place = get_or numbers (record_length * i + 1) 0;
      size = get_or numbers (record_length * i + 2) 0;
      base = get_or numbers (record_length * i + 3) 0;
      memory = get_or numbers (record_length * i + 4) 0;
    }

-- n records from record i on
unfoldable pub records_from : List ℕ → ℕ → ℕ → List Hunk
records_from numbers i zero = []
records_from numbers i (suc n) = record_at numbers i ∷ records_from numbers (i + 1) n

-- a table gets n records, and its further records stay
abbrev pub filled : List ℕ → ℕ → List Hunk → List Hunk
filled numbers n t = records_from numbers 0 n ++ drop n t

-- those of a file's hunks at the bases
abbrev pub hunks_of : List ℕ → List ℕ → List Hunk → List Hunk
hunks_of file bases t = filled (records_of file bases) (total_of file) t

-- the numbers of a record, and of a table
abbrev pub hunk_numbers : Hunk → List ℕ
hunk_numbers h = record_of h.kind h.place (record { size = h.size; memory = h.memory }) h.base

unfoldable pub numbers_in : List Hunk → List ℕ
numbers_in [] = []
numbers_in (h ∷ t) = hunk_numbers h ++ numbers_in t

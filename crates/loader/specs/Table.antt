-- The hunk table: a record of numbers for each hunk, in order (docs/FORMAT.md, "The program file").
use Rattle.std.specs.Prelude.{ℕ, ◌+◌, ◌*◌, List, [], ◌∷◌, ◌++◌, take, drop, replicate, slice_set}
use Rattle.program.specs.declared.act.Act.{Act}
use Rattle.program.specs.declared.act.Act.TheVariants.{Quiet, Body, Store, Add}
use Rattle.program.specs.Types as type
use Rattle.program.specs.Spaces.{Space}
use Rattle.program.specs.Header.{total_of, space_of}
use Rattle.program.specs.Acts.{acts_of, pass}
use Rattle.loader.specs.Memory.{amount_of}

-- a record's numbers: kind, place, size in words, base, kind of memory
abbrev pub record_of : ℕ → ℕ → Space → ℕ → List ℕ
record_of kind place space base = kind ∷ place ∷ space.size ∷ base ∷ space.memory ∷ []

-- how many they are
abbrev pub record_length : ℕ
record_length = 5

-- a table with numbers in place of those from number n on
unfoldable pub with_numbers : List ℕ → ℕ → List ℕ → List ℕ
with_numbers t n [] = t
with_numbers t n (x ∷ xs) = with_numbers (slice_set t n x) (n + 1) xs

-- a body writes its hunk's record
abbrev pub record_one : List ℕ → List ℕ → List ℕ → Act → List ℕ
record_one file bases t Quiet = t
record_one file bases t (Body h p k) =
    with_numbers t (record_length * h) (record_of k p (space_of file h) (amount_of bases h))
record_one file bases t (Store p w) = t
record_one file bases t (Add p k b) = t

abbrev pub with_records : List ℕ → List ℕ → List ℕ → List Act → List ℕ
with_records file bases t us = pass (record_one file bases) t us

-- room for the records of as many hunks as a file has at most
abbrev pub table_room : ℕ
table_room = record_length * type.most_hunks

-- the records of a file's hunks, one after the other
unfoldable pub records_of : List ℕ → List ℕ → List ℕ
records_of file bases =
    take (record_length * total_of file) (with_records file bases (replicate table_room 0) (acts_of file))

-- a table gets them, and its further numbers stay
abbrev pub table_of : List ℕ → List ℕ → List ℕ → List ℕ
table_of file bases t = records_of file bases ++ drop (record_length * total_of file) t

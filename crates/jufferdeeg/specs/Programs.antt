-- The answers of check, load and move as C meets them: a struct of the answer's numbers, by `numbers_of`.
use Rattle.std.specs.Prelude.{ℕ, ◌≡◌, List, length}
use Rattle.program.specs.Check.{Answer, numbers_of, check_of}
use Rattle.loader.specs.Calls.{load_answer, move_answer}
use Rattle.hunks.specs.declared.Hunk.{Hunk}
use Rattle.hunks.specs.Calls.{Loads, Moves}
use Rattle.jufferdeeg.specs.declared.programs.ProgramNumbers.{ProgramNumbers}

abbrev pub program_numbers : Answer → ProgramNumbers
program_numbers a =
    let n = numbers_of a in
    record { number = n.number; place = n.place; hunks = n.values.hunks; bytes = n.values.bytes }

-- ---- the promises: those of the call that it makes, and its answer's numbers

abbrev pub check_numbers : List ℕ → ProgramNumbers
check_numbers file = program_numbers (check_of file)

module _ (file memory : List ℕ) (table : List Hunk) (work : List ℕ) where
  abbrev pub loads_as : List ℕ → Answer
  loads_as bases = load_answer file bases (length memory) (length table) (length work)

  abbrev pub moves_as : List ℕ → List ℕ → Answer
  moves_as old new = move_answer file old new (length memory) (length table) (length work)

pub record LoadsNumbers (file bases memory : List ℕ) (table : List Hunk) (work : List ℕ) (r : ProgramNumbers)
    (memory' : List ℕ) (table' : List Hunk) (work' : List ℕ) : Type 0 where
  pub answer : r ≡ program_numbers (loads_as file memory table work bases)
  pub call : Loads file bases memory table work (loads_as file memory table work bases) memory' table' work'

pub record MovesNumbers (file old new memory : List ℕ) (table : List Hunk) (work : List ℕ) (r : ProgramNumbers)
    (memory' : List ℕ) (table' : List Hunk) (work' : List ℕ) : Type 0 where
  pub answer : r ≡ program_numbers (moves_as file memory table work old new)
  pub call : Moves file old new memory table work (moves_as file memory table work old new) memory' table' work'

-- What a load and a move answer, and what they leave: the file's own faults, then bases, room, near targets
-- (docs/FORMAT.md, "The program file" and "Numbers"). A refused call leaves memory and table; the work area comes
-- back all 0.
use Rattle.std.specs.Prelude.{Result, Ok, Err, ◌≡◌, ℕ, ◌/◌, List, [], ◌∷◌, ◌++◌, length, replicate, nat_lt}
use Rattle.answers.specs.Numbers as fault
use Rattle.answers.specs.Tests.{pick}
use Rattle.answers.specs.declared.Refusal.{Refusal}
use Rattle.answers.specs.Refusals.{refusal}
use Rattle.program.specs.Header.{total_of}
use Rattle.program.specs.Check.{Answer, numbers_of, check_refusals, check_of}
use Rattle.loader.specs.Memory.{loaded_of, load_of, move_of}
use Rattle.loader.specs.Table.{record_length, table_of}
use Rattle.loader.specs.Bases.{bases_fault}
use Rattle.loader.specs.Near.{clash_of}

-- the numbers of all refusals of a load, and of a move: the check's, and those of bases, room and near targets
abbrev pub call_refusals : List ℕ
call_refusals = check_refusals ++ (fault.bad_base ∷ fault.short_room ∷ fault.near_targets ∷ [])

-- n bytes of memory and of work area, and t records
abbrev pub room_fault : ℕ → ℕ → ℕ → ℕ → ℕ → Result Unit Refusal
room_fault t n memory records work =
    pick (nat_lt memory n) (Err (refusal fault.short_room 0))
    (pick (nat_lt records t) (Err (refusal fault.short_room 0))
    (pick (nat_lt work n) (Err (refusal fault.short_room 0)) (Ok tt)))

-- a further test of what is accepted so far
abbrev pub also : Answer → Result Unit Refusal → Answer
also (Ok v) (Ok u) = Ok v
also (Ok v) (Err r) = Err r
also (Err r) h = Err r

-- of memory and work area by their lengths, and of the table by its records
abbrev pub last_tests : List ℕ → Answer → ℕ → ℕ → ℕ → Answer
last_tests file a memory records work =
    also (also a (room_fault (total_of file) (loaded_of file) memory records work)) (clash_of file)

unfoldable pub load_answer : List ℕ → List ℕ → ℕ → ℕ → ℕ → Answer
load_answer file bases memory records work =
    last_tests file (also (check_of file) (bases_fault file bases 0)) memory records work

-- the new list counts on from T
unfoldable pub move_answer : List ℕ → List ℕ → List ℕ → ℕ → ℕ → ℕ → Answer
move_answer file old new memory records work =
    last_tests file
    (also (also (check_of file) (bases_fault file old 0)) (bases_fault file new (total_of file)))
    memory records work

-- accepted: the new contents; refused: the old
abbrev pub effect : Answer → List ℕ → List ℕ → List ℕ
effect (Ok v) new old = new
effect (Err r) new old = old

-- ---- the promises: the calls are lent a table of numbers; the answer is said also by its numbers

-- the records that such a table has room for
abbrev pub records_in : List ℕ → ℕ
records_in table = length table / record_length

pub record Loads (file bases memory table work : List ℕ) (r : Answer) (memory' table' work' : List ℕ) : Type 0 where
  pub answer : r ≡ load_answer file bases (length memory) (records_in table) (length work)
  pub numbers : numbers_of r ≡ numbers_of (load_answer file bases (length memory) (records_in table) (length work))
  pub loaded : memory' ≡ effect r (load_of file bases memory) memory
  pub recorded : table' ≡ effect r (table_of file bases table) table
  pub clean : work' ≡ replicate (length work) 0

pub record Moves (file old new memory table work : List ℕ) (r : Answer) (memory' table' work' : List ℕ) : Type 0 where
  pub answer : r ≡ move_answer file old new (length memory) (records_in table) (length work)
  pub numbers : numbers_of r ≡ numbers_of (move_answer file old new (length memory) (records_in table) (length work))
  pub shifted : memory' ≡ effect r (move_of file old new memory) memory
  pub recorded : table' ≡ effect r (table_of file new table) table
  pub clean : work' ≡ replicate (length work) 0

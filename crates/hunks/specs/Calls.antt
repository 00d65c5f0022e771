-- What a load and a move over a table of structs answer, said also by the answer's numbers, and what they leave. A
-- refused call leaves memory and table; the work area comes back all 0.
use Rattle.std.specs.Prelude.{Ok, Err, ℕ, ◌≡◌, List, length, replicate}
use Rattle.program.specs.Check.{Answer, numbers_of}
use Rattle.loader.specs.Memory.{load_of, move_of}
use Rattle.loader.specs.Calls.{load_answer, move_answer, effect}
use Rattle.hunks.specs.declared.Hunk.{Hunk}
use Rattle.hunks.specs.Records.{hunks_of}

-- accepted: the new records; refused: the old
abbrev pub kept : Answer → List Hunk → List Hunk → List Hunk
kept (Ok v) new old = new
kept (Err r) new old = old

pub record Loads (file bases memory : List ℕ) (table : List Hunk) (work : List ℕ) (r : Answer)
    (memory' : List ℕ) (table' : List Hunk) (work' : List ℕ) : Type 0 where
  pub answer : r ≡ load_answer file bases (length memory) (length table) (length work)
  pub numbers : numbers_of r ≡ numbers_of (load_answer file bases (length memory) (length table) (length work))
  pub loaded : memory' ≡ effect r (load_of file bases memory) memory
  pub recorded : table' ≡ kept r (hunks_of file bases table) table
  pub clean : work' ≡ replicate (length work) 0

pub record Moves (file old new memory : List ℕ) (table : List Hunk) (work : List ℕ) (r : Answer)
    (memory' : List ℕ) (table' : List Hunk) (work' : List ℕ) : Type 0 where
  pub answer : r ≡ move_answer file old new (length memory) (length table) (length work)
  pub numbers : numbers_of r ≡ numbers_of (move_answer file old new (length memory) (length table) (length work))
  pub shifted : memory' ≡ effect r (move_of file old new memory) memory
  pub recorded : table' ≡ kept r (hunks_of file new table) table
  pub clean : work' ≡ replicate (length work) 0

-- What the laws of moving speak of, however a table holds its records: equal room, and loads that are accepted
-- (docs/FORMAT.md, "Bases and room").
use Rattle.std.specs.Prelude.{◌≡◌, ℕ, List, length}
use Rattle.program.specs.Check.{accepted}
use Rattle.loader.specs.Calls.{load_answer}

-- room of one size: memory, table and work area as long as those
pub record SameRoom {R : Type 0} (m : List ℕ) (t : List R) (w m' : List ℕ) (t' : List R) (w' : List ℕ) : Type 0 where
  pub memory : length m' ≡ length m
  pub table : length t' ≡ length t
  pub work : length w' ≡ length w

-- a load is accepted at these bases in this room, with a table of so many records
abbrev pub LoadsAt : List ℕ → List ℕ → List ℕ → ℕ → List ℕ → ℕ → ℕ → Type 0
LoadsAt file bases m records w x n = load_answer file bases (length m) records (length w) ≡ accepted x n

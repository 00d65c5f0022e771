-- What the parts of the code hand on: the records come back from the core as numbers. Nothing that a call answers is
-- said here.
use Rattle.std.specs.Prelude.{Ok, Err, ℕ, ◌≤◌, ◌≡◌, length}
use Rattle.program.specs.Types as type
use Rattle.program.specs.Check.{Answer}
use Rattle.loader.specs.declared.calls.Outcome.{Outcome}
use Rattle.loader.specs.Table.{table_room}

-- how many records an answer has
abbrev pub count_of : Answer → ℕ
count_of (Ok v) = v.hunks
count_of (Err r) = 0

-- the records of an outcome have room in a table of so many
pub record Fits (o : Outcome) (records : ℕ) : Type 0 where
  pub fits : count_of o.answer ≤ records
  pub most : count_of o.answer ≤ type.most_hunks
  pub whole : length o.records ≡ table_room

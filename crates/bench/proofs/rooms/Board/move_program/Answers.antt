-- `bench::rooms::Board::move_program` meets its contract. What is accepted fits memory and table.
use Rattle.std.proofs.Common.{rules}
use Rattle.bench.proofs.Lent.{move_fits, move_records}
use Rattle.bench.proofs.rooms.Board.move_program.Goals as goal

pub program-requires : goal.program-requires
program-requires c = search (rules, move_fits, move_records, c.in_ok-extent.was) depth 7

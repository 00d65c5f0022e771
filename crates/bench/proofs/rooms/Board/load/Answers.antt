-- `bench::rooms::Board::load` meets its contract. What is accepted fits memory and table.
use Rattle.std.proofs.Common.{rules}
use Rattle.bench.proofs.Lent.{load_fits, load_records}
use Rattle.bench.proofs.rooms.Board.load.Goals as goal

pub program-requires : goal.program-requires
program-requires c = search (rules, load_fits, load_records, c.in_ok-extent.was) depth 7

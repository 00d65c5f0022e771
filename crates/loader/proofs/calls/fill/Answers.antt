-- `loader::calls::fill` meets its contract. Assumes nothing.
use Rattle.loader.proofs.Answering.{fill_done}
use Rattle.loader.proofs.calls.fill.Goals as goal

pub returns-in-Ok : goal.returns-in-Ok
returns-in-Ok c = fill_done _ _ _ _ _ c.requires c.in-Ok.is c.put_numbers.ensures

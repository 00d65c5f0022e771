-- `loader::table::put_numbers` meets its contract. Assumes nothing.
use Rattle.loader.proofs.Copies.{put_there}
use Rattle.loader.proofs.table.put_numbers.Goals as goal

pub returns : goal.returns
returns c = put_there _ _ _ _ c.requires c.copy.ensures

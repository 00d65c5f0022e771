-- `walk::file::KeyBlock::next` meets its contract. Assumes nothing.
use Rattle.walk.proofs.Loops.{next_is}
use Rattle.walk.proofs.file.KeyBlock.next.Goals as goal

pub returns : goal.returns
returns c = search next_is depth 7

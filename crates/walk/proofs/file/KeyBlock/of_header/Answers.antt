-- `walk::file::KeyBlock::of_header` meets its contract. Assumes nothing.
use Rattle.walk.proofs.Loops.{header_is}
use Rattle.walk.proofs.file.KeyBlock.of_header.Goals as goal

pub returns : goal.returns
returns c = search header_is depth 7

-- `walk::file::KeyBlock::list_tests` meets its contract. Assumes nothing.
use Rattle.walk.proofs.Loops.{done_within, list_is}
use Rattle.walk.proofs.file.KeyBlock.list_tests.Goals as goal

pub overflow_sub-data_blocks : goal.overflow_sub-data_blocks
overflow_sub-data_blocks c = search done_within depth 7

pub returns : goal.returns
returns c = search list_is depth 7

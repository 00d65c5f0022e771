-- `walk::file::KeyBlock::data_tests` meets its contract. Assumes nothing.
use Rattle.walk.proofs.Loops.{in_image, number_few, datum_is}
use borrow.Author.Rules.{rules}
use Rattle.walk.proofs.file.KeyBlock.data_tests.Goals as goal

pub data_fault-requires : goal.data_fault-requires
data_fault-requires c =
    (search rules, search rules, search in_image depth 7, search rules, search number_few depth 7)

pub returns : goal.returns
returns c = search datum_is depth 7

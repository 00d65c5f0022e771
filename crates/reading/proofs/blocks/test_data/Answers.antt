-- `reading::blocks::test_data` meets its contract. Assumes nothing.
use Rattle.volume.proofs.Summing.{range_testable}
use Rattle.reading.proofs.Testing.{node_in, node_out}
use borrow.Author.Rules.{rules}
use Rattle.reading.proofs.blocks.test_data.Goals as goal

pub data_tests-requires : goal.data_tests-requires
data_tests-requires c = search (rules, range_testable) depth 7

pub returns-then-not-in_range : goal.returns-then-not-in_range
returns-then-not-in_range c = search node_out depth 7

pub returns : goal.returns
returns c = search node_in depth 7

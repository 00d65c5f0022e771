-- `reading::blocks::test_list` meets its contract. Assumes nothing.
use Rattle.volume.proofs.Summing.{range_testable}
use Rattle.reading.proofs.Testing.{node_in, node_out}
use borrow.Author.Rules.{rules}
use Rattle.reading.proofs.blocks.test_list.Goals as goal

pub list_tests-requires : goal.list_tests-requires
list_tests-requires c = search (rules, range_testable) depth 7

pub returns-then-not-in_range : goal.returns-then-not-in_range
returns-then-not-in_range c = search node_out depth 7

pub returns : goal.returns
returns c = search node_in depth 7

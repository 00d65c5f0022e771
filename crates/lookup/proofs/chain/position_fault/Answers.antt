-- `lookup::chain::position_fault` meets its contract. Assumes nothing.
use Rattle.volume.proofs.Summing.{range_testable}
use Rattle.lookup.proofs.Chains.{key_out, key_far, key_own}
use Rattle.lookup.proofs.chain.position_fault.Goals as goal

pub entry_fault-requires : goal.entry_fault-requires
entry_fault-requires c = search range_testable depth 7

pub returns-then-not-in_range : goal.returns-then-not-in_range
returns-then-not-in_range c = search key_out depth 7

pub returns-then-chain_limit-compared : goal.returns-then-chain_limit-compared
returns-then-chain_limit-compared c = search key_far depth 7

pub returns : goal.returns
returns c = search key_own depth 7

use Prim.Native.Nat.{◌-◌}
use Rattle.volume.specs.Disks.{chain_limit}
use Rattle.lookup.proofs.Chains.{Going}
use Rattle.lookup.proofs.chain.search.Given as goal

abbrev pub invariant-loop-key : goal.invariant-loop-key
invariant-loop-key l = Going l.disk l.image l.directory l.name l.compared l.key

abbrev pub decreases-loop-key : goal.decreases-loop-key
decreases-loop-key l = chain_limit l.disk - l.compared

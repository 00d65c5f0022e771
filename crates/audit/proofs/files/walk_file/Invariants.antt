use Rattle.reach.specs.Walk.{free}
use Rattle.audit.proofs.KeyBlocks.{ListsInv}
use Rattle.audit.proofs.files.walk_file.Given as goal

abbrev pub invariant-loop-b : goal.invariant-loop-b
invariant-loop-b l = ListsInv l.disk l.image l.initial.b l.initial.n l.initial.claim l.claim l.n l.b

abbrev pub decreases-loop-b : goal.decreases-loop-b
decreases-loop-b l = free l.claim

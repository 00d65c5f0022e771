use Rattle.audit.proofs.Hanging.{TwinInv}
use Rattle.audit.proofs.directories.is_twin.Given as goal

abbrev pub invariant-loop : goal.invariant-loop
invariant-loop l = TwinInv l.disk l.image l.key l.head l.position l.e l.counter

use Rattle.loader.proofs.Copies.{Differs}
use Rattle.loader.proofs.calls.differences.Given as goal

abbrev pub invariant-loop-i : goal.invariant-loop-i
invariant-loop-i l = Differs l.old l.new l.initial.amounts l.amounts l.i

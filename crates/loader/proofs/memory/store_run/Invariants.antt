use Rattle.loader.proofs.StoredRuns.{Storing}
use Rattle.loader.proofs.memory.store_run.Given as goal

abbrev pub invariant-loop-i : goal.invariant-loop-i
invariant-loop-i l = Storing l.file l.at l.n l.initial.memory l.p l.memory l.i

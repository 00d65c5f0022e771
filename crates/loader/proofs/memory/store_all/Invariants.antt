use Rattle.loader.specs.Memory.{store_one}
use Rattle.loader.proofs.Stepping.{Passing}
use Rattle.loader.proofs.memory.store_all.Given as goal

abbrev pub invariant-loop-step : goal.invariant-loop-step
invariant-loop-step l = Passing store_one l.file l.initial.memory l.memory l.step-iterator

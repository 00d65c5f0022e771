use Rattle.loader.proofs.Marking.{Clashes}
use Rattle.loader.proofs.marks.mark_all.Given as goal

abbrev pub invariant-loop-step : goal.invariant-loop-step
invariant-loop-step l = Clashes l.file l.initial.work l.work l.step-iterator

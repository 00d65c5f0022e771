use Rattle.loader.specs.Memory.{shift_one, amount_of}
use Rattle.loader.proofs.Stepping.{Passing}
use Rattle.loader.proofs.memory.add_all.Given as goal

abbrev pub invariant-loop-step : goal.invariant-loop-step
invariant-loop-step l =
    Passing (λ x a. shift_one x (amount_of l.amounts) a) l.file l.initial.memory l.memory l.step-iterator

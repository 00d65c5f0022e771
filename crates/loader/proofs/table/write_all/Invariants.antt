use Rattle.loader.specs.Table.{record_one}
use Rattle.loader.proofs.Stepping.{Passing}
use Rattle.loader.proofs.table.write_all.Given as goal

abbrev pub invariant-loop-step : goal.invariant-loop-step
invariant-loop-step l = Passing (record_one l.file l.bases) l.file l.initial.table l.table l.step-iterator

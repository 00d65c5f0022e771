-- So many records are filled, and the others stay.
use Rattle.std.proofs.Common.{◌≡◌}
use Rattle.hunks.specs.Records.{filled}
use Rattle.hunks.proofs.fill.Given as goal

abbrev pub invariant-loop-i : goal.invariant-loop-i
invariant-loop-i l = l.table ≡ filled l.o.records l.i l.initial.table

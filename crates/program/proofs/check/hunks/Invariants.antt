use Prim.Native.Nat.{◌-◌}
use lib.ListN.{length}
use Rattle.program.specs.Runs.{Reads}
use Rattle.program.proofs.check.hunks.Given as goal

abbrev pub invariant-loop-at : goal.invariant-loop-at
invariant-loop-at l = Reads l.file l.c l.at

abbrev pub decreases-loop-at : goal.decreases-loop-at
decreases-loop-at l = length l.file - l.at

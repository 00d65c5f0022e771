use Prim.Native.Nat.{◌-◌}
use Rattle.reading.proofs.Turns.{Going}
use Rattle.reading.proofs.copy.copy_file.Given as goal

abbrev pub invariant-loop-done : goal.invariant-loop-done
invariant-loop-done l =
    Going l.disk l.image l.header l.offset l.initial.output l.count l.bytes l.output l.at l.within l.done

abbrev pub decreases-loop-done : goal.decreases-loop-done
decreases-loop-done l = l.count - l.done

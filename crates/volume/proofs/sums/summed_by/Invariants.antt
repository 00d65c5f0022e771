use Rattle.volume.proofs.Summing.{SumsInv}
use Rattle.volume.proofs.sums.summed_by.Given as goal

abbrev pub invariant-loop-key : goal.invariant-loop-key
invariant-loop-key l = SumsInv l.fn.disk l.image l.bitmap l.key

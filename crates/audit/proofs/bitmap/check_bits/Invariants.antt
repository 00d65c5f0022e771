use Rattle.audit.proofs.Mapping.{BitsInv}
use Rattle.audit.proofs.bitmap.check_bits.Given as goal

abbrev pub invariant-loop-key : goal.invariant-loop-key
invariant-loop-key l = BitsInv l.fn.disk l.image l.bitmap l.claim l.free l.key

use Rattle.reading.proofs.Testing.{KeysInv}
use Rattle.reading.proofs.blocks.test_keys.Given as goal

abbrev pub invariant-loop-i : goal.invariant-loop-i
invariant-loop-i l = KeysInv l.disk l.image l.b l.i-end l.last l.i

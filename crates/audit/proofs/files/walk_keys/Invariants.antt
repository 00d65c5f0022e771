use Rattle.audit.proofs.KeyBlocks.{KeysInv}
use Rattle.audit.proofs.files.walk_keys.Given as goal

abbrev pub invariant-loop-i : goal.invariant-loop-i
invariant-loop-i l = KeysInv l.disk l.image l.b l.initial.claim l.initial.n l.i-end l.claim l.n l.last l.i

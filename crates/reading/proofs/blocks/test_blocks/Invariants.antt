use Prim.Native.Nat.{◌-◌}
use Rattle.volume.specs.Files.{blocks_of}
use Rattle.reading.proofs.Testing.{BlocksInv}
use Rattle.reading.proofs.blocks.test_blocks.Given as goal

abbrev pub invariant-loop-b : goal.invariant-loop-b
invariant-loop-b l = BlocksInv l.disk l.image l.header l.b

abbrev pub decreases-loop-b : goal.decreases-loop-b
decreases-loop-b l = blocks_of l.disk l.image l.b.header - l.b.done

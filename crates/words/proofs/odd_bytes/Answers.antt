-- `words::odd_bytes` meets its contract. Assumes nothing.
use Rattle.std.proofs.Common.{arith}
use Rattle.words.specs.Lanes.{odd_bytes}
use Rattle.words.proofs.odd_bytes.Goals as goal

pub returns : goal.returns
unfolding odd_bytes
returns c = (omega arith, omega arith)

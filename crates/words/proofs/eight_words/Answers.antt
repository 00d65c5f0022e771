-- `words::eight_words` meets its contract. Assumes nothing.
use Rattle.std.proofs.Common.{arith}
use Rattle.words.specs.Lanes.{eight}
use Rattle.words.proofs.eight_words.Goals as goal

pub returns : goal.returns
unfolding eight
returns c = record { low = omega arith; odd = omega arith; small = (omega arith, omega arith) }

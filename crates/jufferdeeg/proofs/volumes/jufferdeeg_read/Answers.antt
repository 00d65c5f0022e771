-- `jufferdeeg::volumes::jufferdeeg_read` meets its contract. Assumes nothing.
use Rattle.jufferdeeg.proofs.Crossing.{reads as reads-image}
use Rattle.jufferdeeg.proofs.volumes.jufferdeeg_read.Goals as goal

pub returns : goal.returns
returns c = reads-image _ _ _ _ _ _ _ _ c.read.ensures c.from.ensures

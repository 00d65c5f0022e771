-- `volume::block::word_of` meets its contract. Assumes nothing.
use Rattle.volume.proofs.block.word_of.Goals as goal

pub returns : goal.returns
returns c = cc

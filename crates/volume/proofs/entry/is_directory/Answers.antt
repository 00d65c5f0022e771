-- `volume::entry::is_directory` meets its contract. Assumes nothing.
use Rattle.volume.proofs.entry.is_directory.Goals as goal

pub returns : goal.returns
returns c = cc

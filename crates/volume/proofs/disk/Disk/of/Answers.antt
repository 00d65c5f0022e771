-- `volume::disk::Disk::of` meets its contract. Assumes nothing.
use Rattle.volume.proofs.disk.Disk.of.Goals as goal

pub returns : goal.returns
returns c = cc

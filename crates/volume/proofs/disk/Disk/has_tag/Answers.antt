-- `volume::disk::Disk::has_tag` meets its contract. Assumes nothing.
use Rattle.volume.proofs.disk.Disk.has_tag.Goals as goal

pub returns : goal.returns
returns c = cc

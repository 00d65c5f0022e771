-- `volume::disk::size_in` meets its contract. Assumes nothing.
use Rattle.volume.proofs.Disks.{size_high, size_double}
use Rattle.volume.proofs.disk.size_in.Goals as goal

pub returns-then-image : goal.returns-then-image
returns-then-image c = search size_high depth 7

pub returns : goal.returns
returns c = search size_double depth 7

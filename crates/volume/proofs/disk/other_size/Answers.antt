-- `volume::disk::other_size` meets its contract. Assumes nothing.
use Rattle.volume.proofs.Disks.{other_of_double, other_of_high}
use Rattle.volume.proofs.disk.other_size.Goals as goal

pub returns-then-blocks-eq-DOUBLE_DENSITY : goal.returns-then-blocks-eq-DOUBLE_DENSITY
returns-then-blocks-eq-DOUBLE_DENSITY c = search other_of_double depth 7

pub returns : goal.returns
returns c = search other_of_high depth 7

-- `volume::disk::Disk::data_start` meets its contract. Assumes nothing.
use Rattle.volume.specs.Disks.{data_start}
use borrow.Author.Rules.{rules}
use Rattle.volume.proofs.disk.Disk.data_start.Goals as goal

pub returns : goal.returns
unfolding data_start
returns c = search rules

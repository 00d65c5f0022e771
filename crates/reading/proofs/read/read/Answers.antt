-- `reading::read::read` meets its contract. Assumes nothing.
use Rattle.volume.proofs.Disks.{disk_sized}
use borrow.Author.Rules.{rules}
use Rattle.reading.proofs.read.read.Goals as goal

pub read_on-requires : goal.read_on-requires
read_on-requires c = search (rules, disk_sized) depth 7

-- `lookup::find::find` meets its contract. Assumes nothing.
use Rattle.volume.proofs.Disks.{disk_sized}
use borrow.Author.Rules.{rules}
use Rattle.lookup.proofs.find.find.Goals as goal

pub find_on-requires : goal.find_on-requires
find_on-requires c = search (rules, disk_sized) depth 7

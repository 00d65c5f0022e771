-- `volume::disk::Disk::in_range` meets its contract. Assumes nothing.
use borrow.Author.Tests.{lt-ltb, le-ltb}
use Rattle.answers.specs.Tests.{pick}
use Rattle.volume.specs.Disks.{in_range}
use Rattle.volume.proofs.disk.Disk.in_range.Goals as goal

pub returns-then-key-lt-FIRST_KEY : goal.returns-then-key-lt-FIRST_KEY
unfolding in_range pick
returns-then-key-lt-FIRST_KEY c = simp (lt-ltb _ _ c.if-key-lt-FIRST_KEY.true)

pub returns : goal.returns
unfolding in_range pick
returns c = simp (le-ltb _ _ c.if-key-lt-FIRST_KEY.false)

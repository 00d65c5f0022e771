-- `volume::disk::Disk::is_old` meets its contract. Assumes nothing.
use Rattle.answers.proofs.Members.{first_of_two, second_of_two}
use Rattle.volume.specs.Disks.{is_old}
use Rattle.volume.proofs.disk.Disk.is_old.Goals as goal

pub returns-then-self-eq-OLD : goal.returns-then-self-eq-OLD
unfolding is_old
returns-then-self-eq-OLD c = search first_of_two depth 7

pub returns : goal.returns
unfolding is_old
returns c = search second_of_two depth 7

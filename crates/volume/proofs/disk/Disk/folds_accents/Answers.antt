-- `volume::disk::Disk::folds_accents` meets its contract. Assumes nothing.
use Rattle.answers.proofs.Members.{first_of_two, second_of_two}
use Rattle.volume.specs.Disks.{folds_accents}
use Rattle.volume.proofs.disk.Disk.folds_accents.Goals as goal

pub returns-then-self-eq-OLD_INTERNATIONAL : goal.returns-then-self-eq-OLD_INTERNATIONAL
unfolding folds_accents
returns-then-self-eq-OLD_INTERNATIONAL c = search first_of_two depth 7

pub returns : goal.returns
unfolding folds_accents
returns c = search second_of_two depth 7

-- `volume::name::fold` meets its contract. Assumes nothing.
use Rattle.volume.proofs.Names.{fold_ascii}
use Rattle.volume.proofs.name.fold.Goals as goal

pub returns-then-b-lt128 : goal.returns-then-b-lt128
returns-then-b-lt128 c = search fold_ascii depth 7

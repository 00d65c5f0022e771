-- `volume::name::fold_by_rule` meets its contract. Assumes nothing.
use Rattle.volume.proofs.Names.{fold_accents, fold_other}
use Rattle.volume.proofs.name.fold_by_rule.Goals as goal

pub returns-then-folds_accents : goal.returns-then-folds_accents
returns-then-folds_accents c = search fold_accents depth 7

pub returns : goal.returns
returns c = search fold_other depth 7

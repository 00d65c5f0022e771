-- `volume::name::fold_international` meets its contract: the rule of its table, tested at each of the 256 entries by
-- computing. Assumes nothing.
use Rattle.volume.specs.declared.name.TheConstants.{FOLDED}
use Rattle.answers.specs.Tests.{pick}
use Rattle.volume.specs.Names.{fold_plain, accented, fold_international}
use Rattle.volume.proofs.Tables.{entry_is}
use Rattle.volume.proofs.name.fold_international.Goals as goal

pub returns : goal.returns
unfolding fold_international accented fold_plain pick
returns c = entry_is fold_international FOLDED tt c.args.b c.ranges.b.fits

-- `volume::sums::summed_by` meets its contract. Assumes nothing.
use Rattle.volume.proofs.Summing.{sums_start, sums_again, sums_end}
use Rattle.volume.proofs.sums.summed_by.Goals as goal

pub loop-key-init : goal.loop-key-init
loop-key-init c = search sums_start depth 7

pub loop-key-preserved : goal.loop-key-preserved
loop-key-preserved c = search sums_again depth 7

pub returns : goal.returns
returns c = search sums_end depth 7

-- `volume::sums::breaks_sum` meets its contract. Assumes nothing.
use Rattle.volume.proofs.Summing.{free_keeps, used_breaks}
use Rattle.volume.proofs.sums.breaks_sum.Goals as goal

pub returns-then-is_free : goal.returns-then-is_free
returns-then-is_free c = search free_keeps depth 7

pub returns : goal.returns
returns c = search used_breaks depth 7

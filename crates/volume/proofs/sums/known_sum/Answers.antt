-- `volume::sums::known_sum` meets its contract. Assumes nothing.
use Rattle.volume.proofs.Summing.{sum_said}
use Rattle.volume.proofs.sums.known_sum.Goals as goal

pub returns-then-is_summed : goal.returns-then-is_summed
returns-then-is_summed c = search sum_said depth 7

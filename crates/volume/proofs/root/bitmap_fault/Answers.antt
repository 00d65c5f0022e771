-- `volume::root::bitmap_fault` meets its contract. Assumes nothing.
use Rattle.volume.proofs.Faults.{bitmap_bad, bitmap_good}
use Rattle.volume.proofs.root.bitmap_fault.Goals as goal

pub returns-then-sum_of-ne0 : goal.returns-then-sum_of-ne0
returns-then-sum_of-ne0 c = search bitmap_bad depth 7

pub returns : goal.returns
returns c = search bitmap_good depth 7

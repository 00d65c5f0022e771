-- `reading::copy::Listed::seek` meets its contract: so many list blocks are passed. Assumes nothing.
use Rattle.reading.proofs.Listing.{way_starts, way_goes}
use Rattle.reading.proofs.copy.Listed.seek.Goals as goal

pub loop-init : goal.loop-init
loop-init c = search way_starts depth 7

pub loop-preserved : goal.loop-preserved
loop-preserved c = search way_goes depth 7

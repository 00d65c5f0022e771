-- `reading::copy::Listed::next` meets its contract. Assumes nothing.
use Rattle.reading.proofs.Listing.{step_over}
use Rattle.reading.proofs.copy.Listed.next.Goals as goal

pub returns : goal.returns
returns c = search step_over depth 7

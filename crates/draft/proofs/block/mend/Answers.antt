-- `draft::block::mend` meets its contract. Assumes nothing.
use Rattle.draft.proofs.Sums.{is_mended}
use Rattle.draft.proofs.block.mend.Goals as goal

pub returns : goal.returns
returns c = search is_mended depth 7

-- `draft::block::set_bit` meets its contract. Assumes nothing.
use Rattle.draft.proofs.Bits.{is_set}
use Rattle.draft.proofs.block.set_bit.Goals as goal

pub returns : goal.returns
returns c = search is_set depth 9

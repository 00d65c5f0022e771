-- `draft::block::edit` meets its contract. Assumes nothing.
use Rattle.draft.proofs.block.edit.Goals as goal

pub returns : goal.returns
returns c = cc

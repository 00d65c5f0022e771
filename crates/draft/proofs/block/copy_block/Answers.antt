-- `draft::block::copy_block` meets its contract. Assumes nothing.
use Rattle.std.proofs.Common.{arith}
use Rattle.draft.proofs.Copies.{block_copied}
use Rattle.draft.proofs.block.copy_block.Goals as goal

pub returns : goal.returns
returns c =
    block_copied c.args.to.now c.copy.new.to c.args.from.now c.args.k c.args.i _ _ (omega arith)
    (omega arith) c.requires.0 c.copy.ensures

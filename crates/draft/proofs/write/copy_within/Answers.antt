-- `draft::write::copy_within` meets its contract: what is copied out and back is the block. Assumes nothing.
use Rattle.std.proofs.Common.{ap, ◌∙◌, replicate, rules}
use Rattle.volume.specs.Blocks.{block_bytes}
use Rattle.writes.specs.Writes.{put}
use Rattle.draft.proofs.Fetched.{put_over}
use Rattle.draft.proofs.write.copy_within.Goals as goal

pub returns : goal.returns
returns c =
    (rw c.copy_block.ensures at c.copy_block-2.ensures)
    ∙ ap (put c.args.blocks.now c.args.n)
    (put_over (replicate block_bytes 0) c.args.blocks.now c.args.i c.requires.0 (search rules))

-- `draft::write::edit_block` meets its contract. Assumes nothing.
use Rattle.std.proofs.Common.{◌+◌, ◌-◌, ◌*◌, refl, arith}
use Rattle.volume.specs.Blocks.{block_bytes}
use Rattle.draft.proofs.Fetched.{part_edited}
use Rattle.draft.proofs.write.edit_block.Goals as goal

pub returns : goal.returns
returns c =
    part_edited c.args.blocks.now c.edit.new.block c.args.n c.args.j c.args.v (c.args.n * block_bytes)
    (c.args.n * block_bytes + block_bytes - c.args.n * block_bytes) refl (omega arith) c.requires.0 c.requires.1
    c.edit.ensures

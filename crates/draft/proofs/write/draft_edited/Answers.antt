-- `draft::write::draft_edited` meets its contract: the edited block is put over the copied one. Assumes nothing.
use Rattle.std.proofs.Common.{◌∙◌}
use Rattle.writes.specs.Writes.{carried, writes_in}
use Rattle.draft.proofs.Fetched.{holds_after, put_edited}
use Rattle.draft.proofs.write.draft_edited.Goals as goal

pub returns : goal.returns
returns c =
    let room = c.requires.0 in
    record {
      entry = c.draft.ensures.entry;
      block =
          (rw c.draft.ensures.block at c.edit_block.ensures)
          ∙ put_edited c.args.blocks.now
          (carried c.args.image.now (writes_in c.args.order.now c.args.blocks.now c.args.n))
          c.args.n c.args.key c.args.j c.args.v room.whole
          (holds_after c.args.image.now c.args.order.now c.args.blocks.now c.args.n c.args.key room)
          c.requires.1;
    }

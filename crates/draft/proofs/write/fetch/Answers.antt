-- `draft::write::fetch` meets its contract: the last write that names the block has it. Assumes nothing.
use Rattle.std.proofs.Common.{◌≡◌, ◌+◌, ◌-◌, sym, ap, ◌∙◌, arith}
use Rattle.volume.specs.Blocks.{Holds}
use Rattle.writes.specs.Writes.{put}
use Rattle.draft.specs.Parts.{Inside}
use Rattle.draft.proofs.Fetched.{fetched_here, fetched_below, fetched_image}
use Rattle.draft.proofs.write.fetch.Goals as goal

-- the write that names it
pub returns-then-order-i : goal.returns-then-order-i
returns-then-order-i c =
    let s = c.args.image.now in
    let e : c.loop-i.i - 1 + 1 ≡ c.loop-i.i = omega arith in
    let f : Inside s c.args.order.now (c.loop-i.i - 1 + 1) = λ j l. c.requires.before j (omega arith) in
    let h : Holds c.args.blocks.now (c.loop-i.i - 1) = omega arith in
    let g = rw e at
    (fetched_here s c.args.order.now c.args.blocks.now (c.loop-i.i - 1) c.args.key f h c.requires.key c.if-order-i.true)
    in
    (rw c.loop-i.invariant.1 at c.copy_within.ensures)
    ∙ ap (put c.args.blocks.now c.args.n) (sym (c.loop-i.invariant.2 ∙ g))

pub loop-i-preserved : goal.loop-i-preserved
loop-i-preserved c =
    let s = c.args.image.now in
    let e : c.loop-i.i - 1 + 1 ≡ c.loop-i.i = omega arith in
    let f : Inside s c.args.order.now (c.loop-i.i - 1 + 1) = λ j l. c.requires.before j (omega arith) in
    let h : Holds c.args.blocks.now (c.loop-i.i - 1) = omega arith in
    let g = rw e at
    (fetched_below s c.args.order.now c.args.blocks.now
    (c.loop-i.i - 1) c.args.key f h c.requires.key c.if-order-i.false)
    in
    (omega arith, c.loop-i.invariant.1, c.loop-i.invariant.2 ∙ g)

-- no write names it
pub returns : goal.returns
returns c =
    let e : c.loop-i.i ≡ 0 = omega arith in
    (rw c.loop-i.invariant.1 at c.copy_block.ensures)
    ∙ ap (put c.args.blocks.now c.args.n)
    (sym ((rw e at c.loop-i.invariant.2)
    ∙ fetched_image c.args.image.now c.args.order.now c.args.blocks.now c.args.key))

-- `hunks::fill` meets its contract: each turn fills one more record. Assumes nothing.
use Rattle.std.proofs.Common.{sym, ap, ◌∙◌, arith}
use lib.ListN.{set}
use Rattle.hunks.proofs.Filling.{filled_zero, filled_more}
use Rattle.hunks.proofs.Handing.{none_counted}
use Rattle.hunks.proofs.fill.Goals as goal

pub loop-i-init : goal.loop-i-init
loop-i-init c = sym (filled_zero c.args.o.now.records c.args.table.now)

pub loop-i-preserved : goal.loop-i-preserved
loop-i-preserved c =
    let r = c.record_at.result in
    let room = rw c.in-Ok.is at c.requires.fits in
    ap (λ t. set t c.loop-i.i r) c.loop-i.invariant
    ∙ filled_more c.args.o.now.records c.loop-i.i c.args.table.now r r c.record_at.ensures (omega (arith, room))

pub returns-in_default : goal.returns-in_default
returns-in_default c =
    let none = none_counted c.args.o.now.answer c.in_default.not-Ok in
    rw none (sym (filled_zero c.args.o.now.records c.args.table.now))

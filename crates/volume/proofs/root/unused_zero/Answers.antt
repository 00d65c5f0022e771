-- `volume::root::unused_zero` meets its contract: the words that are left decide. Assumes nothing.
use mathlib.Core.Path.{refl, ◌∙◌}
use native.Mathlib.Omega.{arith}
use Rattle.volume.proofs.Faults.{zero_step, zero_bad, zero_done}
use Rattle.volume.proofs.root.unused_zero.Goals as goal

pub loop-i-init : goal.loop-i-init
loop-i-init c = (omega arith, refl)

pub returns-then-word_of-ne0 : goal.returns-then-word_of-ne0
returns-then-word_of-ne0 c =
    let l = c.loop-i in
    let a = c.args in
    zero_bad a.image.now a.root 80 25 l.i (omega arith) _ c.word_of.ensures c.if-word_of-ne0.true
    ∙ l.invariant.1

pub loop-i-preserved : goal.loop-i-preserved
loop-i-preserved c =
    let l = c.loop-i in
    let a = c.args in (
      omega arith,
      zero_step a.image.now a.root 80 25 l.i (omega arith) _ c.word_of.ensures
          c.if-word_of-ne0.false ∙ l.invariant.1,
    )

pub returns : goal.returns
returns c =
    let l = c.loop-i in
    let a = c.args in
    zero_done a.image.now a.root 80 25 l.i (omega arith) ∙ l.invariant.1

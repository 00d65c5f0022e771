-- `loader::marks::mark_all` meets its contract: the marks are those of the targets seen. Assumes nothing.
use Rattle.std.proofs.Common.{sym, ap, ◌∙◌}
use Rattle.std.specs.Prelude.{Err}
use Rattle.loader.specs.declared.steps.Step.TheVariants as step
use Rattle.loader.proofs.Stepping.{same_act}
use Rattle.loader.proofs.Marking.{clash_start, clash_end, clash_rest, clash_met, clash_new}
use Rattle.loader.proofs.marks.mark_all.Goals as goal

pub loop-step-init : goal.loop-step-init
loop-step-init c =
    rw c.into_iter-step-iterator.ensures.into_iter_gives
    (clash_start _ _ _ c.steps-step-items.ensures.file c.steps-step-items.ensures.all c.requires.2 c.requires.3)

pub returns-then-word-ne0 : goal.returns-then-word-ne0
returns-then-word-ne0 c =
    ap Err c.at.ensures
    ∙ clash_met _ _ _ _ c.loop-step.invariant _ _ c.in-Some.ensures.steps _ _ _ (c.in-Act.is ∙ ap step.Act c.in-Add.is)
    _ c.word.ensures c.if-word-ne0.true

pub loop-step-preserved-in-Add : goal.loop-step-preserved-in-Add
loop-step-preserved-in-Add c =
    clash_new _ _ _ _ c.loop-step.invariant _ _ c.in-Some.ensures.steps _ _ _ (c.in-Act.is ∙ ap step.Act c.in-Add.is)
    _ c.word.ensures c.if-word-ne0.false _ c.mark.ensures

pub loop-step-preserved-in_default-a : goal.loop-step-preserved-in_default-a
loop-step-preserved-in_default-a c =
    clash_rest _ _ _ _ c.loop-step.invariant _ _ c.in-Some.ensures.steps
    (λ p k b e. c.in_default-a.not-Add p k b (same_act (sym c.in-Act.is ∙ e)))

pub loop-step-preserved : goal.loop-step-preserved
loop-step-preserved c =
    clash_rest _ _ _ _ c.loop-step.invariant _ _ c.in-Some.ensures.steps (λ p k b e. c.in_default.not-Act _ e)

pub returns : goal.returns
returns c = clash_end _ _ _ _ c.loop-step.invariant _ c.in-None.ensures.steps

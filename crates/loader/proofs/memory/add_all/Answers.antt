-- `loader::memory::add_all` meets its contract. Assumes nothing.
use Rattle.std.proofs.Common.{refl}
use Rattle.loader.proofs.Acts.{length_shift_one, shift_pass}
use Rattle.loader.proofs.Stepping.{passing_step, passing_end, pass_one, pass_rest}
use Rattle.loader.proofs.memory.add_all.Goals as goal

pub loop-step-preserved-in-Act : goal.loop-step-preserved-in-Act
loop-step-preserved-in-Act c =
    passing_step _ (λ x. refl) (length_shift_one _) _ _ _ _ c.loop-step.invariant _ _ _ c.in-Some.ensures.steps
    (pass_one _ _ _ _ _ _ c.in-Act.is c.add_act.ensures)

pub loop-step-preserved : goal.loop-step-preserved
loop-step-preserved c =
    passing_step _ (λ x. refl) (length_shift_one _) _ _ _ _ c.loop-step.invariant _ _ _ c.in-Some.ensures.steps
    (pass_rest _ (λ x p w. refl) _ _ _ c.in_default.not-Act)

pub returns : goal.returns
returns c =
    shift_pass _ _ _ _
    (passing_end _ (λ x. refl) (length_shift_one _) _ _ _ _ c.loop-step.invariant _ c.in-None.ensures.steps)

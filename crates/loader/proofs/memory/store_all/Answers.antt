-- `loader::memory::store_all` meets its contract. Assumes nothing.
use Rattle.std.proofs.Common.{refl}
use Rattle.loader.specs.Memory.{store_one}
use Rattle.loader.proofs.Acts.{length_store_one}
use Rattle.loader.proofs.Stepping.{passing_step, passing_end, step_unstored}
use Rattle.loader.proofs.Stepping.{pass_run, pass_unstored}
use Rattle.loader.proofs.memory.store_all.Goals as goal

pub loop-step-preserved-in-Words : goal.loop-step-preserved-in-Words
loop-step-preserved-in-Words c =
    passing_step store_one (λ x. refl) length_store_one _ _ _ _ c.loop-step.invariant _ _ _ c.in-Some.ensures.steps
    (pass_run _ _ _ _ _ _ _ c.in-Words.is c.store_run.ensures)

pub loop-step-preserved : goal.loop-step-preserved
loop-step-preserved c =
    passing_step store_one (λ x. refl) length_store_one _ _ _ _ c.loop-step.invariant _ _ _ c.in-Some.ensures.steps
    (pass_unstored _ _ _ c.in_default.not-Words
    (λ p w e. step_unstored _ _ _ p w c.in-Some.ensures.steps e))

pub returns : goal.returns
returns c =
    passing_end store_one (λ x. refl) length_store_one _ _ _ _ c.loop-step.invariant _ c.in-None.ensures.steps

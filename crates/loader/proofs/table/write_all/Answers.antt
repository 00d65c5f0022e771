-- `loader::table::write_all` meets its contract. Assumes nothing.
use Rattle.std.proofs.Common.{refl, arith}
use Rattle.loader.proofs.Acts.{length_record_one, loaded_low}
use Rattle.loader.proofs.Stepping.{passing_step, passing_end, step_room, pass_one, pass_rest}
use Rattle.loader.proofs.table.write_all.Goals as goal

pub write_act-requires : goal.write_act-requires
write_act-requires c =
    let i = c.loop-step.invariant in (
      search,
      step_room _ _ _ _ _ _ _ c.in-Some.ensures.steps c.in-Act.is i.same (loaded_low _ c.requires.0) (omega arith),
      search,
      omega (arith, i.long),
    )

pub loop-step-preserved-in-Act : goal.loop-step-preserved-in-Act
loop-step-preserved-in-Act c =
    passing_step _ (λ x. refl) (length_record_one _ _) _ _ _ _ c.loop-step.invariant _ _ _ c.in-Some.ensures.steps
    (pass_one _ _ _ _ _ _ c.in-Act.is c.write_act.ensures)

pub loop-step-preserved : goal.loop-step-preserved
loop-step-preserved c =
    passing_step _ (λ x. refl) (length_record_one _ _) _ _ _ _ c.loop-step.invariant _ _ _ c.in-Some.ensures.steps
    (pass_rest _ (λ x p w. refl) _ _ _ c.in_default.not-Act)

pub returns : goal.returns
returns c =
    passing_end _ (λ x. refl) (length_record_one _ _) _ _ _ _ c.loop-step.invariant _ c.in-None.ensures.steps

-- `program::check::hunks` meets its contract: what is left of the walk decides. Assumes nothing.
use mathlib.Core.Path.{◌≡◌, ap, ◌∙◌}
use Rattle.std.specs.Prelude.{Ok, Err}
use Rattle.std.proofs.Common.{rules}
use Rattle.std.proofs.lemmas.Result.{err_from_is_err_and}
use Rattle.answers.specs.Refusals.{refused_at}
use Rattle.program.proofs.Mapped.{mapped_ok, mapped_err}
use Rattle.program.proofs.Walks.{reads_start, reads_bad, reads_end}
use Rattle.program.proofs.Runs.{turn_less, turn_aligned, turn_fits, reads_turn}
use Rattle.program.proofs.check.hunks.Goals as goal

pub loop-at-init : goal.loop-at-init
loop-at-init c = search reads_start depth 7

pub past-s-requires : goal.past-s-requires
past-s-requires c =
    let taken : c.step.result ≡ Ok c.in_ok-d.d = mapped_ok _ _ _ c.map_err.ensures.cases c.in_ok-d.was in
    (search turn_fits depth 7, search, search turn_aligned)

pub loop-at-smaller : goal.loop-at-smaller
loop-at-smaller c = search turn_less

pub loop-at-preserved : goal.loop-at-preserved
loop-at-preserved c =
    let taken : c.step.result ≡ Ok c.in_ok-d.d = mapped_ok _ _ _ c.map_err.ensures.cases c.in_ok-d.was in
    search reads_turn depth 7

pub returns-in_err-d : goal.returns-in_err-d
returns-in_err-d c =
    let p = mapped_err _ _ _ c.map_err.ensures.cases c.in_err-d.was in
    let q = err_from_is_err_and c.from_residual.result c.from_residual.ensures.1 in
    let z : q.0 ≡ refused_at p.0 c.loop-at.at = q.2 ∙ (let m = p.2 in search rules) in
    reads_bad _ _ _ c.loop-at.invariant _ _ _ c.loop-at-test.true c.word.ensures c.step.ensures p.1 (q.1 ∙ ap Err z)

pub returns : goal.returns
returns c = search reads_end depth 7

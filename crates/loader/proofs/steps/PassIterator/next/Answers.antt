-- `loader::steps::PassIterator::next` meets its contract. Assumes nothing.
use Rattle.std.proofs.Common.{sym, ◌∙◌, arith}
use Rattle.program.proofs.Runs.{leads_far, leads_reads}
use Rattle.loader.proofs.Stepping.{makes_progress, run_far, gives_end, gives_words, gives_bad, reads_word, gives_past}
use Rattle.loader.proofs.Stepping.{ok_some, ok_none}
use Rattle.loader.proofs.steps.PassIterator.next.Goals as goal

pub returns-then-file-at-clause-steps : goal.returns-then-file-at-clause-steps
returns-then-file-at-clause-steps c = gives_end _ c.if-file-at.true

pub overflow_sub-result : goal.overflow_sub-result
overflow_sub-result c = leads_far _ c.past-spot.ensures.leads

pub returns-in-Stored-clause-steps : goal.returns-in-Stored-clause-steps
returns-in-Stored-clause-steps c = gives_words _ c.requires _ _ _ c.past-spot.ensures.leads c.in-Stored.is

pub returns-in-Stored-clause-goes : goal.returns-in-Stored-clause-goes
returns-in-Stored-clause-goes c =
    makes_progress _ _ _ _ (leads_reads _ c.past-spot.ensures.leads c.requires)
    (run_far _ _ _ _ _ _ c.past-spot.ensures.leads c.if-file-at.false c.past-spot.ensures.all c.in-Stored.is)

pub skipped-spot-requires : goal.skipped-spot-requires
skipped-spot-requires c =
    reads_word c.args.self.now c.requires _ _ c.if-file-at.false c.word-word.ensures c.step.ensures _
    (ok_some c.step.result (sym c.ok.ensures.value ∙ c.in_ok-on.was))

pub returns-in_err-on-clause-steps : goal.returns-in_err-on-clause-steps
returns-in_err-on-clause-steps c =
    let f = ok_none c.step.result (sym c.ok.ensures.value ∙ c.in_err-on.was) in
    rw c.from_residual.ensures (gives_bad _ c.requires _ _ c.if-file-at.false c.word-word.ensures c.step.ensures f.1)

pub returns-clause-steps : goal.returns-clause-steps
returns-clause-steps c =
    gives_past _ c.requires _ _ c.if-file-at.false c.word-word.ensures c.step.ensures _ _ _ _
    (ok_some c.step.result (sym c.ok.ensures.value ∙ c.in_ok-on.was)) c.act_of.ensures c.in_default.not-Stored
    c.skipped-spot.ensures

pub returns-clause-goes : goal.returns-clause-goes
returns-clause-goes c =
    makes_progress c.args.self.now _ _ _ c.skipped-spot.ensures.reads (omega (arith, c.skipped-spot.ensures.far))

-- `program::reader::past` meets its contract. Assumes nothing.
use Rattle.program.specs.Runs.{here}
use Rattle.program.proofs.Runs.{past_stored, past_skipped, past_stored_all, past_skipped_all}
use Rattle.program.proofs.reader.past.Goals as goal

pub returns-then-file-at-clause-leads : goal.returns-then-file-at-clause-leads
returns-then-file-at-clause-leads c = here

pub returns-in-Stored : goal.returns-in-Stored
returns-in-Stored c =
    record { leads = search past_stored depth 9; all = λ j y. search past_stored_all depth 9 }

pub returns-in-Skip : goal.returns-in-Skip
returns-in-Skip c =
    record {
      leads = search past_skipped depth 9;
      all = past_skipped_all c.args.file.now c.args.c _ _ _ c.skip_at.ensures;
    }

pub returns-in_default-clause-leads : goal.returns-in_default-clause-leads
returns-in_default-clause-leads c = here

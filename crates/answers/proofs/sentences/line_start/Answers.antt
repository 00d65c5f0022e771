-- `answers::sentences::line_start` meets its contract: line n is line n - k of what follows k lines. Assumes nothing.
use Rattle.answers.proofs.Lines.{counted_start, counted_all, counted_on, counted_out}
use Rattle.answers.proofs.sentences.line_start.Goals as goal

pub loop-init : goal.loop-init
loop-init c = counted_start _ _

pub returns-then-end-text : goal.returns-then-end-text
returns-then-end-text c = search counted_out depth 7

pub loop-preserved : goal.loop-preserved
loop-preserved c = search counted_on depth 7

pub returns : goal.returns
returns c = search counted_all depth 7

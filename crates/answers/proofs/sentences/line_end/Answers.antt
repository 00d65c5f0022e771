-- `answers::sentences::line_end` meets its contract: up to byte i there is no newline. Assumes nothing.
use Rattle.answers.proofs.Lines.{ending_start, ending_here, ending_later, ending_last}
use Rattle.answers.proofs.sentences.line_end.Goals as goal

pub loop-i-init : goal.loop-i-init
loop-i-init c = search ending_start depth 7

pub returns-then-text-i-eq10 : goal.returns-then-text-i-eq10
returns-then-text-i-eq10 c = search ending_here depth 7

pub loop-i-preserved : goal.loop-i-preserved
loop-i-preserved c = search ending_later depth 7

pub returns : goal.returns
returns c = search ending_last depth 7

use Rattle.answers.proofs.Lines.{Ending}
use Rattle.answers.proofs.sentences.line_end.Given as goal

abbrev pub invariant-loop-i : goal.invariant-loop-i
invariant-loop-i l = Ending l.text l.at l.i

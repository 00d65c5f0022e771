use Rattle.answers.proofs.Lines.{Counted}
use Rattle.answers.proofs.sentences.line_start.Given as goal

abbrev pub invariant-loop : goal.invariant-loop
invariant-loop l = Counted l.text l.number l.at l.counter

-- `answers::sentences::put_line` meets its contract. Assumes nothing.
use Rattle.answers.proofs.Lines.{puts_line}
use Rattle.answers.proofs.sentences.put_line.Goals as goal

pub returns : goal.returns
returns c = search puts_line depth 7

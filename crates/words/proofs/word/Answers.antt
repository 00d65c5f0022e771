-- `words::word` meets its contract. Assumes nothing.
use Rattle.words.specs.Word.{word_at}
use Rattle.words.proofs.word.Goals as goal

pub returns : goal.returns
unfolding word_at
returns c = c.join.ensures

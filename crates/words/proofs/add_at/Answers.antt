-- `words::add_at` meets its contract. Assumes nothing.
use Rattle.words.specs.Word.{add_at}
use Rattle.words.proofs.add_at.Goals as goal

pub returns : goal.returns
unfolding add_at
returns c = cc

-- `words::low_word` meets its contract. Assumes nothing.
use Rattle.std.proofs.Common.{ap}
use Rattle.words.specs.Lanes.{low_at, odd_bytes}
use Rattle.words.proofs.low_word.Goals as goal

pub returns-clause-value : goal.returns-clause-value
unfolding low_at
returns-clause-value c = c.join_low.ensures

pub returns-clause-odd : goal.returns-clause-odd
unfolding low_at
returns-clause-odd c = ap odd_bytes c.join_low.ensures

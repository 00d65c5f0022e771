-- `words::put_word` meets its contract: each store leaves the length. Assumes nothing.
use Rattle.std.proofs.Common.{arith, length-set}
use Rattle.words.specs.Word.{set_word}
use Rattle.words.proofs.put_word.Goals as goal

pub bounds-bytes-at-2 : goal.bounds-bytes-at-2
bounds-bytes-at-2 c = simp length-set (omega arith)

pub bounds-bytes-at-3 : goal.bounds-bytes-at-3
bounds-bytes-at-3 c = simp length-set (omega arith)

pub bounds-bytes-at-4 : goal.bounds-bytes-at-4
bounds-bytes-at-4 c = simp length-set (omega arith)

pub returns : goal.returns
unfolding set_word
returns c = rw c.to_be_bytes.ensures

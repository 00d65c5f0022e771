-- `words::block_sum` meets its contract: after i turns the two sums are those of the words taken so far, and small
-- enough not to wrap. Assumes nothing.
use Rattle.std.proofs.Common.{◌≡◌, arith}
use Rattle.words.specs.Word.{Bytes}
use Rattle.words.proofs.Turns.{block_turns, turns_none, turns_on}
use Rattle.words.proofs.Lanes.{sum_is}
use Rattle.words.proofs.block_sum.Goals as goal

pub loop-i-init : goal.loop-i-init
loop-i-init c = (omega arith, rw turns_none, rw turns_none, omega arith, omega arith)

pub loop-i-preserved : goal.loop-i-preserved
loop-i-preserved c =
    let v = c.loop-i.invariant in
    let e = c.eight_words-turn.ensures in
    (omega arith, turns_on _ _ _ v.1 e.low, turns_on _ _ _ v.2 e.odd, omega arith, omega arith)

pub returns : goal.returns
returns c =
    let v = c.loop-i.invariant in
    let e : c.loop-i.i ≡ block_turns = omega arith in
    let h : Bytes c.args.bytes.now = λ k. (c.type_inv.bytes k).fits in
    sum_is _ _ h (rw e at v.1) (rw e at v.2) (omega arith) c.even_bytes-even.ensures c.high_first.ensures

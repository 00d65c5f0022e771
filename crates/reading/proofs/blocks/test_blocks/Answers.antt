-- `reading::blocks::test_blocks` meets its contract. Assumes nothing.
use borrow.Author.Rules.{rules}
use Rattle.std.proofs.lemmas.Result.{err_from_is_err_and}
use Rattle.walk.proofs.Loops.{header_ready}
use Rattle.reading.proofs.Testing.{blocks_first, blocks_start, blocks_end}
use Rattle.reading.proofs.Testing.{blocks_out, blocks_again}
use Rattle.reading.proofs.blocks.test_blocks.Goals as goal

pub test_keys-requires : goal.test_keys-requires
test_keys-requires c = search (rules, header_ready) depth 9

pub returns-in_err-test_keys : goal.returns-in_err-test_keys
returns-in_err-test_keys c =
    let p = err_from_is_err_and c.from_residual.result c.from_residual.ensures.1 in
    rw (p.1, p.2)
    (blocks_first _ _ _ _ c.of_header-first.ensures _ c.test_keys.ensures _ c.in_err-test_keys.was)

pub loop-b-init : goal.loop-b-init
loop-b-init c = search (blocks_start, c.in_ok-test_keys.was) depth 9

pub returns-in_err-test_with_keys : goal.returns-in_err-test_with_keys
returns-in_err-test_with_keys c =
    let r = c.from_residual-in_err-test_with_keys in
    let p = err_from_is_err_and r.result r.ensures.1 in
    rw (p.1, p.2)
    (blocks_out _ _ _ _ c.loop-b.invariant c.loop-b-test.true _ c.test_with_keys.ensures _
    c.in_err-test_with_keys.was)

pub loop-b-preserved : goal.loop-b-preserved
loop-b-preserved c = search (blocks_again, c.in_ok-test_with_keys.was) depth 9

pub returns : goal.returns
returns c = search blocks_end depth 9

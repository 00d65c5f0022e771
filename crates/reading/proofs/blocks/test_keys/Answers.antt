-- `reading::blocks::test_keys` meets its contract. Assumes nothing.
use Rattle.std.proofs.Common.{refl}
use Rattle.std.specs.Prelude.{Err}
use Rattle.answers.proofs.Tests.{told_ok, told_err}
use Rattle.reading.proofs.Testing.{keys_out, keys_step, keys_end}
use Rattle.reading.proofs.blocks.test_keys.Goals as goal

pub returns-in-Err : goal.returns-in-Err
returns-in-Err c =
    rw c.at.ensures
    (keys_out _ _ _ _ _ _ c.loop-i.invariant _ _ c.loop-i-test.true c.key_of-key.ensures c.in-Err.ensures
    (told_err (Err c.in-Err.fault) refl))

pub loop-i-preserved : goal.loop-i-preserved
loop-i-preserved c = search (keys_step, told_ok, c.in_default.is) depth 7

pub returns : goal.returns
returns c = search keys_end depth 7

-- `reading::blocks::test_with_keys` meets its contract. Assumes nothing.
use Rattle.std.proofs.Common.{refl}
use Rattle.std.specs.Prelude.{Err}
use borrow.Author.Rules.{rules}
use Rattle.answers.proofs.Tests.{told_ok, told_err}
use Rattle.reading.proofs.Testing.{list_stops, list_asks, list_goes}
use Rattle.reading.proofs.blocks.test_with_keys.Goals as goal

pub returns-in-Err : goal.returns-in-Err
returns-in-Err c =
    rw c.at.ensures (list_stops _ _ _ _ c.in-Err.ensures (told_err (Err c.in-Err.fault) refl))

pub test_keys-requires : goal.test_keys-requires
test_keys-requires c = search (rules, list_asks, told_ok, c.in_default.is) depth 7

pub returns : goal.returns
returns c = search (list_goes, told_ok, c.in_default.is) depth 7

-- `reading::blocks::test_file` meets its contract. Assumes nothing.
use Rattle.std.proofs.Common.{refl}
use Rattle.std.specs.Prelude.{Err}
use Rattle.answers.proofs.Tests.{told_ok, told_err}
use Rattle.reading.proofs.Testing.{header_stops, header_goes}
use Rattle.reading.proofs.blocks.test_file.Goals as goal

pub returns-in-Err : goal.returns-in-Err
returns-in-Err c =
    rw c.at.ensures (header_stops _ _ _ _ c.in-Err.ensures (told_err (Err c.in-Err.fault) refl))

pub returns : goal.returns
returns c = search (header_goes, told_ok, c.in_default.is) depth 9

-- `volume::file::empty_fault` meets its contract. Assumes nothing.
use Rattle.answers.proofs.Tests.{faults}
use Rattle.volume.proofs.file.empty_fault.Goals as goal

pub returns-then-n-ne0 : goal.returns-then-n-ne0
returns-then-n-ne0 c = search faults depth 12

pub returns-then-word_of-ne0 : goal.returns-then-word_of-ne0
returns-then-word_of-ne0 c = search faults depth 12

pub returns-then-is_old : goal.returns-then-is_old
returns-then-is_old c = search faults depth 12

pub returns : goal.returns
returns c = search faults depth 12

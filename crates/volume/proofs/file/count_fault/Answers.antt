-- `volume::file::count_fault` meets its contract. Assumes nothing.
use Rattle.answers.proofs.Tests.{faults}
use Rattle.volume.proofs.file.count_fault.Goals as goal

pub returns-then-word_of-keys_here : goal.returns-then-word_of-keys_here
returns-then-word_of-keys_here c = search faults depth 12

pub returns-then-more-ne0 : goal.returns-then-more-ne0
returns-then-more-ne0 c = search faults depth 12

pub returns-then-n-le-SLOTS : goal.returns-then-n-le-SLOTS
returns-then-n-le-SLOTS c = search faults depth 12

pub returns-then-more-eq0 : goal.returns-then-more-eq0
returns-then-more-eq0 c = search faults depth 12

pub returns : goal.returns
returns c = search faults depth 12

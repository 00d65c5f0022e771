-- `volume::file::data_links_fault` meets its contract. Assumes nothing.
use Rattle.answers.proofs.Tests.{faults}
use Rattle.volume.proofs.file.data_links_fault.Goals as goal

pub returns-then-named-key : goal.returns-then-named-key
returns-then-named-key c = search faults depth 12

pub returns-then-n-data_blocks : goal.returns-then-n-data_blocks
returns-then-n-data_blocks c = search faults depth 12

pub returns-then-word_of-ne0 : goal.returns-then-word_of-ne0
returns-then-word_of-ne0 c = search faults depth 12

pub returns : goal.returns
returns c = search faults depth 12

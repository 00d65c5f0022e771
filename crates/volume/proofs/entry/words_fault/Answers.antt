-- `volume::entry::words_fault` meets its contract. Assumes nothing.
use Rattle.answers.proofs.Tests.{faults}
use Rattle.volume.proofs.entry.words_fault.Goals as goal

pub returns-then-word_of-key : goal.returns-then-word_of-key
returns-then-word_of-key c = search faults depth 12

pub returns-then-word_of-directory : goal.returns-then-word_of-directory
returns-then-word_of-directory c = search faults depth 12

pub returns-then-word_of-ne-DIRECTORY : goal.returns-then-word_of-ne-DIRECTORY
returns-then-word_of-ne-DIRECTORY c = search faults depth 12

pub returns-then-word_of-ne0 : goal.returns-then-word_of-ne0
returns-then-word_of-ne0 c = search faults depth 12

pub returns : goal.returns
returns c = search faults depth 12

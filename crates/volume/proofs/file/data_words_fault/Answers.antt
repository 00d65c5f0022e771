-- `volume::file::data_words_fault` meets its contract. Assumes nothing.
use Rattle.answers.proofs.Tests.{faults}
use Rattle.volume.proofs.file.data_words_fault.Goals as goal

pub returns-then-known_sum-ne0 : goal.returns-then-known_sum-ne0
returns-then-known_sum-ne0 c = search faults depth 12

pub returns-then-word_of-ne-DATA_TYPE : goal.returns-then-word_of-ne-DATA_TYPE
returns-then-word_of-ne-DATA_TYPE c = search faults depth 12

pub returns-then-word_of-header : goal.returns-then-word_of-header
returns-then-word_of-header c = search faults depth 12

pub returns-then-word_of-n : goal.returns-then-word_of-n
returns-then-word_of-n c = search faults depth 12

pub returns-then-word_of-held : goal.returns-then-word_of-held
returns-then-word_of-held c = search faults depth 12

pub returns : goal.returns
returns c = search faults depth 12

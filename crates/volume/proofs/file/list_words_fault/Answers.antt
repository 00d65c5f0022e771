-- `volume::file::list_words_fault` meets its contract. Assumes nothing.
use Rattle.answers.proofs.Tests.{faults}
use Rattle.volume.proofs.file.list_words_fault.Goals as goal

pub returns-then-known_sum-ne0 : goal.returns-then-known_sum-ne0
returns-then-known_sum-ne0 c = search faults depth 12

pub returns-then-word_of-ne-LIST_TYPE : goal.returns-then-word_of-ne-LIST_TYPE
returns-then-word_of-ne-LIST_TYPE c = search faults depth 12

pub returns-then-word_of : goal.returns-then-word_of
returns-then-word_of c = search faults depth 12

pub returns-then-word_of-key : goal.returns-then-word_of-key
returns-then-word_of-key c = search faults depth 12

pub returns-then-word_of-header : goal.returns-then-word_of-header
returns-then-word_of-header c = search faults depth 12

pub returns : goal.returns
returns c = search faults depth 12

-- `volume::root::types_fault` meets its contract. Assumes nothing.
use Rattle.answers.proofs.Tests.{faults}
use Rattle.volume.proofs.root.types_fault.Goals as goal

pub returns-then-sum_of-ne0 : goal.returns-then-sum_of-ne0
returns-then-sum_of-ne0 c = search faults depth 12

pub returns-then-word_of-ne-HEADER_TYPE : goal.returns-then-word_of-ne-HEADER_TYPE
returns-then-word_of-ne-HEADER_TYPE c = search faults depth 12

pub returns-then-word_of-ne-ROOT_KIND : goal.returns-then-word_of-ne-ROOT_KIND
returns-then-word_of-ne-ROOT_KIND c = search faults depth 12

pub returns : goal.returns
returns c = search faults depth 12

-- `volume::entry::types_fault` meets its contract. Assumes nothing.
use Rattle.answers.proofs.Tests.{faults}
use Rattle.volume.proofs.entry.types_fault.Goals as goal

pub returns-then-known_sum-ne0 : goal.returns-then-known_sum-ne0
returns-then-known_sum-ne0 c = search faults depth 12

pub returns-then-word_of-ne-HEADER_TYPE : goal.returns-then-word_of-ne-HEADER_TYPE
returns-then-word_of-ne-HEADER_TYPE c = search faults depth 12

pub returns-then-kind-eq-SOFT_LINK : goal.returns-then-kind-eq-SOFT_LINK
returns-then-kind-eq-SOFT_LINK c = search faults depth 12

pub returns-then-kind-eq-DIRECTORY_LINK : goal.returns-then-kind-eq-DIRECTORY_LINK
returns-then-kind-eq-DIRECTORY_LINK c = search faults depth 12

pub returns-then-kind : goal.returns-then-kind
returns-then-kind c = search faults depth 12

pub returns-then-kind-eq-DIRECTORY : goal.returns-then-kind-eq-DIRECTORY
returns-then-kind-eq-DIRECTORY c = search faults depth 12

pub returns-then-kind-2 : goal.returns-then-kind-2
returns-then-kind-2 c = search faults depth 12

pub returns : goal.returns
returns c = search faults depth 12

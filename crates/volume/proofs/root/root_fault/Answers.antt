-- `volume::root::root_fault` meets its contract. Assumes nothing.
use Rattle.answers.proofs.Tests.{told_ok, told_err, handed_on}
use Rattle.volume.proofs.Faults.{root_types_lem, root_words_lem, root_name, name_passes, name_fails}
use Rattle.volume.proofs.root.root_fault.Goals as goal

pub returns-in_err-types_fault : goal.returns-in_err-types_fault
returns-in_err-types_fault c =
    rw (handed_on _ c.types_fault.result c.from_residual.ensures.1 c.in_err-types_fault.was)
    (search (root_types_lem, told_err, c.in_err-types_fault.was))

pub returns-in_err-words_fault : goal.returns-in_err-words_fault
returns-in_err-words_fault c =
    rw (handed_on _ c.words_fault.result c.from_residual-in_err-words_fault.ensures.1 c.in_err-words_fault.was)
    (search (root_words_lem, told_ok, told_err, c.in_ok-types_fault.was, c.in_err-words_fault.was))

pub returns-then-name_good : goal.returns-then-name_good
returns-then-name_good c =
    search (root_name, name_passes, told_ok, c.in_ok-types_fault.was, c.in_ok-words_fault.was) depth 9

pub returns-else-name_good : goal.returns-else-name_good
returns-else-name_good c =
    search (root_name, name_fails, told_ok, c.in_ok-types_fault.was, c.in_ok-words_fault.was) depth 9

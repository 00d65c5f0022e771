-- `volume::entry::entry_fault` meets its contract. Assumes nothing.
use Rattle.answers.proofs.Tests.{told_ok, told_err, handed_on}
use Rattle.volume.proofs.Faults.{entry_types_lem, entry_words_lem, entry_name_lem}
use Rattle.volume.proofs.entry.entry_fault.Goals as goal

pub returns-in_err-types_fault : goal.returns-in_err-types_fault
returns-in_err-types_fault c =
    rw (handed_on _ c.types_fault.result c.from_residual.ensures.1 c.in_err-types_fault.was)
    (search (entry_types_lem, told_err, c.in_err-types_fault.was))

pub returns-in_err-words_fault : goal.returns-in_err-words_fault
returns-in_err-words_fault c =
    rw (handed_on _ c.words_fault.result c.from_residual-in_err-words_fault.ensures.1 c.in_err-words_fault.was)
    (search (entry_words_lem, told_ok, told_err, c.in_ok-types_fault.was, c.in_err-words_fault.was))

pub returns : goal.returns
returns c = search (entry_name_lem, told_ok, c.in_ok-types_fault.was, c.in_ok-words_fault.was) depth 9

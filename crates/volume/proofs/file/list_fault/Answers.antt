-- `volume::file::list_fault` meets its contract. Assumes nothing.
use Rattle.answers.proofs.Tests.{told_ok, told_err, handed_on}
use Rattle.volume.proofs.Faults.{list_words_lem, list_count}
use Rattle.volume.proofs.file.list_fault.Goals as goal

pub returns-in_err-list_words_fault : goal.returns-in_err-list_words_fault
returns-in_err-list_words_fault c =
    rw (handed_on _ c.list_words_fault.result c.from_residual.ensures.1 c.in_err-list_words_fault.was)
    (search (list_words_lem, told_err, c.in_err-list_words_fault.was) depth 7)

pub returns : goal.returns
returns c = search (list_count, told_ok, c.in_ok-list_words_fault.was) depth 9

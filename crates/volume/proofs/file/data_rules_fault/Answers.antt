-- `volume::file::data_rules_fault` meets its contract. Assumes nothing.
use Rattle.answers.proofs.Tests.{told_ok, told_err, handed_on}
use Rattle.volume.proofs.Faults.{data_words_lem, data_links_lem}
use Rattle.volume.proofs.file.data_rules_fault.Goals as goal

pub returns-in_err-data_words_fault : goal.returns-in_err-data_words_fault
returns-in_err-data_words_fault c =
    rw (handed_on _ c.data_words_fault.result c.from_residual.ensures.1 c.in_err-data_words_fault.was)
    (search (data_words_lem, told_err, c.in_err-data_words_fault.was) depth 7)

pub returns : goal.returns
returns c = search (data_links_lem, told_ok, c.in_ok-data_words_fault.was) depth 9

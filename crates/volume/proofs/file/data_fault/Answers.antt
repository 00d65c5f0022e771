-- `volume::file::data_fault` meets its contract. Assumes nothing.
use Rattle.volume.proofs.Faults.{data_asked, data_unasked}
use Rattle.volume.proofs.file.data_fault.Goals as goal

pub returns-then-has_words : goal.returns-then-has_words
returns-then-has_words c = search data_asked depth 7

pub returns : goal.returns
returns c = search data_unasked depth 7

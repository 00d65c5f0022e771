-- `volume::file::file_fault` meets its contract. Assumes nothing.
use Rattle.answers.proofs.Tests.{told_ok, told_err, handed_on}
use Rattle.volume.proofs.Faults.{file_big, file_count, file_empty}
use Rattle.volume.proofs.file.file_fault.Goals as goal

pub returns-then-file_limit-size : goal.returns-then-file_limit-size
returns-then-file_limit-size c = search file_big

pub returns-in_err-count_fault : goal.returns-in_err-count_fault
returns-in_err-count_fault c =
    rw (handed_on _ c.count_fault.result c.from_residual.ensures.1 c.in_err-count_fault.was)
    (search (file_count, told_err, c.in_err-count_fault.was) depth 7)

pub returns : goal.returns
returns c = search (file_empty, told_ok, c.in_ok-count_fault.was) depth 9

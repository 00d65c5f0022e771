-- `audit::top::root_tests` meets its contract. Assumes nothing.
use Rattle.answers.proofs.Tests.{told_ok, told_err, handed_on}
use Rattle.audit.proofs.Meeting.{first_stops, first_goes}
use Rattle.audit.proofs.top.root_tests.Goals as goal

pub returns-in_err-root_fault : goal.returns-in_err-root_fault
returns-in_err-root_fault c =
    rw (handed_on _ c.root_fault.result c.from_residual.ensures.1 c.in_err-root_fault.was)
    (search (first_stops, told_err, c.in_err-root_fault.was))

pub returns : goal.returns
returns c = search (first_goes, told_ok, c.in_ok-root_fault.was) depth 9

-- `audit::directories::hangs_fault` meets its contract. Assumes nothing.
use borrow.Author.Rules.{rules}
use Rattle.answers.proofs.Tests.{told_ok, told_err, handed_on}
use Rattle.audit.proofs.Hanging.{earlier_known, entry_known, hangs_own, hangs_twin, hangs_directory, hangs_file}
use Rattle.audit.proofs.directories.hangs_fault.Goals as goal

pub returns-in_err-entry_fault : goal.returns-in_err-entry_fault
returns-in_err-entry_fault c =
    rw (handed_on _ c.entry_fault.result c.from_residual.ensures.1 c.in_err-entry_fault.was)
    (search (hangs_own, told_err, c.in_err-entry_fault.was) depth 9)

pub is_twin-requires : goal.is_twin-requires
is_twin-requires c = search (rules, entry_known, earlier_known, told_ok, c.in_ok-entry_fault.was) depth 9

pub returns-then-is_twin : goal.returns-then-is_twin
returns-then-is_twin c = search (hangs_twin, told_ok, c.in_ok-entry_fault.was) depth 9

pub returns-then-is_directory : goal.returns-then-is_directory
returns-then-is_directory c = search (hangs_directory, told_ok, c.in_ok-entry_fault.was) depth 9

pub returns : goal.returns
returns c = search (hangs_file, told_ok, c.in_ok-entry_fault.was) depth 9

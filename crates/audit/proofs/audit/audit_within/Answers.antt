-- `audit::audit::audit_within` meets its contract. Assumes nothing.
use Rattle.std.proofs.Common.{rules}
use Rattle.audit.proofs.Walking.{handed}
use Rattle.audit.proofs.Auditing.{kept_long, within_stopped, walk_few, bitmap_inside, within_right, within_wrong}
use Rattle.audit.proofs.audit.audit_within.Goals as goal

pub returns-in_err-c : goal.returns-in_err-c
returns-in_err-c c = rw (handed _ _ c.from_residual.ensures.1) (search (within_stopped, c.in_err-c.was) depth 9)

pub check_bits-requires : goal.check_bits-requires
check_bits-requires c = search (rules, kept_long, bitmap_inside, c.in_ok-c.was) depth 9

pub returns-in_err-free : goal.returns-in_err-free
returns-in_err-free c =
    rw (handed _ _ c.from_residual-in_err-free.ensures.1)
    (search (within_wrong, c.in_ok-c.was, c.in_err-free.was) depth 9)

pub of-requires : goal.of-requires
of-requires c = search (rules, walk_few, c.in_ok-c.was) depth 9

pub returns : goal.returns
returns c = search (within_right, c.in_ok-c.was, c.in_ok-free.was) depth 9

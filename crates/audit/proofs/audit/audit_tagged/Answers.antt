-- `audit::audit::audit_tagged` meets its contract. Assumes nothing.
use Rattle.std.proofs.Common.{rules}
use Rattle.audit.proofs.Auditing.{tagged_kept, tagged_cleared}
use Rattle.audit.proofs.audit.audit_tagged.Goals as goal

pub returns-then-is_err : goal.returns-then-is_err
returns-then-is_err c = search (rules, tagged_cleared) depth 9

pub returns-else-is_err : goal.returns-else-is_err
returns-else-is_err c = search tagged_kept depth 9

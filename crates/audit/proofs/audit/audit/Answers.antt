-- `audit::audit::audit` meets its contract. Assumes nothing.
use Rattle.volume.proofs.Disks.{disk_sized}
use borrow.Author.Rules.{rules}
use Rattle.audit.proofs.audit.audit.Goals as goal

pub audit_on-requires : goal.audit_on-requires
audit_on-requires c = search (rules, disk_sized) depth 7

-- `audit::audit::audit_on` meets its contract. Assumes nothing.
use Rattle.audit.proofs.Auditing.{audit_length, audit_short, audit_untagged, audit_goes}
use Rattle.std.proofs.Common.{◌≡◌, length, replicate, rules}
use Rattle.audit.proofs.audit.audit_on.Goals as goal

pub returns-then-image-image_bytes : goal.returns-then-image-image_bytes
returns-then-image-image_bytes c = search (audit_length, rules) depth 9

pub returns-then-claim-claim_bytes : goal.returns-then-claim-claim_bytes
returns-then-claim-claim_bytes c = search (audit_short, rules) depth 9

pub returns-then-not-has_tag : goal.returns-then-not-has_tag
returns-then-not-has_tag c = search (audit_untagged, rules) depth 9

pub returns : goal.returns
returns c =
    let z : c.fill.new.self ≡ replicate (length c.args.claim.now) 0 = search rules in
    search audit_goes depth 9

-- `audit::claims::meet` meets its contract. Assumes nothing.
use Rattle.audit.proofs.Meeting.{claims_range}
use Rattle.audit.proofs.claims.meet.Goals as goal

pub and_then-requires : goal.and_then-requires
and_then-requires g c = λ x e. let r = claims_range _ _ _ _ _ c.claim_key.ensures e in c.requires.may_test r.0 r.1

-- `audit::claims::claim_key` meets its contract. Assumes nothing.
use Rattle.audit.proofs.Meeting.{claim_room, claim_taken, claim_new, claim_out}
use borrow.Author.Rules.{rules}
use Rattle.audit.proofs.claims.claim_key.Goals as goal

pub returns-then-not-in_range : goal.returns-then-not-in_range
returns-then-not-in_range c = search claim_out depth 7

pub bounds-claim-at : goal.bounds-claim-at
bounds-claim-at c = search (rules, claim_room)

pub returns-then-claim-at-ne0 : goal.returns-then-claim-at-ne0
returns-then-claim-at-ne0 c = search (claim_taken, claim_room) depth 7

pub bounds-claim-at-2 : goal.bounds-claim-at-2
bounds-claim-at-2 c = search (rules, claim_room)

pub returns : goal.returns
returns c = search (claim_new, claim_room) depth 7

-- `walk_entry` claims a block before it calls `walk_directory`, which calls `walk_entry` with no more blocks unclaimed
-- than it was given. The measures are twice the unclaimed blocks, and one more for `walk_directory`.
use Rattle.std.proofs.Common.{◌+◌, ◌*◌}
use Rattle.reach.specs.Walk.{free}
use Rattle.audit.proofs.Hanging.{ChainInv, SlotsAt, slots_left}
use Rattle.audit.proofs.directories.+walk_directory_walk_entry.Given as goal

abbrev pub decreases-walk_directory : goal.decreases-walk_directory
decreases-walk_directory l = 2 * free l.claim.now + 1

abbrev pub decreases-walk_entry : goal.decreases-walk_entry
decreases-walk_entry l = 2 * free l.claim.now

abbrev pub invariant-walk_directory-chain : goal.invariant-walk_directory-chain
invariant-walk_directory-chain l =
    ChainInv l.disk l.image l.key l.slot l.initial.n l.initial.claim l.claim l.n l.entry l.position

abbrev pub decreases-walk_directory-chain : goal.decreases-walk_directory-chain
decreases-walk_directory-chain l = free l.claim

abbrev pub invariant-walk_directory-slots : goal.invariant-walk_directory-slots
invariant-walk_directory-slots l = SlotsAt l.disk l.image l.key l.initial.n l.initial.claim l.claim l.n l.used

abbrev pub decreases-walk_directory-slots : goal.decreases-walk_directory-slots
decreases-walk_directory-slots l = slots_left l.used

-- The rest of the path is shorter.
use Rattle.std.proofs.Common.{length}
use Rattle.lookup.proofs.find.+lookup.Given as goal

abbrev pub decreases-lookup : goal.decreases-lookup
decreases-lookup l = length l.path.now

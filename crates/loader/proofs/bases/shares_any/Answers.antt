-- `loader::bases::shares_any` meets its contract: the hunks that are left decide. Assumes nothing.
use Rattle.loader.proofs.Entries.{shares_yes, shares_no, shares_none}
use Rattle.loader.proofs.bases.shares_any.Goals as goal

pub returns-then-overlap : goal.returns-then-overlap
returns-then-overlap c = search shares_yes depth 7

pub loop-j-preserved : goal.loop-j-preserved
loop-j-preserved c = search shares_no depth 7

pub returns : goal.returns
returns c = search shares_none

-- `hunks::load` meets its contract: what the core hands back fits the table, which is filled from it. Assumes nothing.
use Rattle.std.specs.Prelude.{None}
use Rattle.hunks.proofs.Handing.{hands_fit, load_returns}
use Rattle.hunks.proofs.load.Goals as goal

pub fill-requires : goal.fill-requires
fill-requires c = hands_fit _ None _ _ _ _ _ _ _ c.load_core-o.ensures

pub returns : goal.returns
returns c = load_returns _ _ _ _ _ _ _ _ c.fill.ensures _ c.load_core-o.ensures

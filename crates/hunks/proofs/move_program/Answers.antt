-- `hunks::move_program` meets its contract: what the core hands back fits the table, which is filled from it. Assumes
-- nothing.
use Rattle.std.specs.Prelude.{Some}
use Rattle.hunks.proofs.Handing.{hands_fit, move_returns}
use Rattle.hunks.proofs.move_program.Goals as goal

pub fill-requires : goal.fill-requires
fill-requires c = hands_fit _ (Some c.args.old.now) _ _ _ _ _ _ _ c.move_core-o.ensures

pub returns : goal.returns
returns c = move_returns _ _ _ _ _ _ _ _ c.fill.ensures _ _ c.move_core-o.ensures

-- `loader::calls::move_program` meets its contract. Assumes nothing.
use Rattle.std.specs.Prelude.{Some}
use Rattle.std.proofs.Common.{refl}
use Rattle.loader.proofs.Calling.{place_fills, move_returns}
use Rattle.loader.proofs.calls.move_program.Goals as goal

pub fill-requires : goal.fill-requires
fill-requires c = place_fills _ (Some c.args.old.now) _ _ _ _ _ _ _ c.move_core-o.ensures

pub returns : goal.returns
returns c = move_returns _ _ _ _ _ _ _ _ _ refl c.fill.ensures _ _ c.move_core-o.ensures

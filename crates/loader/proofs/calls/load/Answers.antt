-- `loader::calls::load` meets its contract. Assumes nothing.
use Rattle.std.specs.Prelude.{None}
use Rattle.std.proofs.Common.{refl}
use Rattle.loader.proofs.Calling.{place_fills, load_returns}
use Rattle.loader.proofs.calls.load.Goals as goal

pub fill-requires : goal.fill-requires
fill-requires c = place_fills _ None _ _ _ _ _ _ _ c.load_core-o.ensures

pub returns : goal.returns
returns c = load_returns _ _ _ _ _ _ _ _ _ refl c.fill.ensures _ c.load_core-o.ensures

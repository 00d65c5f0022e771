-- `loader::calls::call` meets its contract. Assumes nothing.
use Rattle.std.proofs.Common.{refl}
use Rattle.loader.proofs.Calling.{place_asks}
use Rattle.loader.proofs.calls.call.Goals as goal

pub place-requires : goal.place-requires
place-requires c = place_asks _ _ _ _ _ _ _ _ c.verdict-answer.ensures _ c.in-Ok.is _ refl

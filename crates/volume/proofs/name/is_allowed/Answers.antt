-- `volume::name::is_allowed` meets its contract: what is left to look at decides. Assumes nothing.
use Rattle.std.proofs.Common.{◌∙◌}
use Rattle.volume.proofs.Names.{allowed_done}
use Rattle.volume.proofs.name.is_allowed.Goals as goal

pub returns : goal.returns
returns c = allowed_done _ _ c.loop-b-test.false ∙ c.loop-b.invariant

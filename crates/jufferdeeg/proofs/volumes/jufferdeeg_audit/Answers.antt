-- `jufferdeeg::volumes::jufferdeeg_audit` meets its contract. Assumes nothing.
use Rattle.jufferdeeg.proofs.Crossing.{audits as audits-image}
use Rattle.jufferdeeg.proofs.volumes.jufferdeeg_audit.Goals as goal

pub returns : goal.returns
returns c = audits-image _ _ _ _ _ _ c.audit.ensures c.from.ensures

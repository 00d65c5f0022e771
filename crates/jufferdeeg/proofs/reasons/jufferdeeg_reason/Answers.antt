-- `jufferdeeg::reasons::jufferdeeg_reason` meets its contract: what it lends is the constant. Assumes nothing.
use Rattle.jufferdeeg.specs.Reasons.{sentences}
use Rattle.jufferdeeg.proofs.reasons.jufferdeeg_reason.Goals as goal

pub returns : goal.returns
unfolding sentences
returns c = c.put_line.ensures

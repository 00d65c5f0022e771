-- `jufferdeeg::volumes::jufferdeeg_find` meets its contract. Assumes nothing.
use mathlib.Core.Path.{◌∙◌, ap}
use Rattle.jufferdeeg.specs.Volumes.{find_numbers}
use Rattle.jufferdeeg.proofs.volumes.jufferdeeg_find.Goals as goal

pub returns : goal.returns
returns c = c.from.ensures ∙ ap find_numbers c.find.ensures.answer

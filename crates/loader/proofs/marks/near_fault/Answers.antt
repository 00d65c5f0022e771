-- `loader::marks::near_fault` meets its contract: what is marked is cleared. Assumes nothing.
use Rattle.loader.proofs.Marking.{cleared}
use Rattle.loader.proofs.marks.near_fault.Goals as goal

pub returns : goal.returns
returns c = (
  c.mark_all-r.ensures,
  cleared _ _ _ _ c.requires.4 c.requires.3 c.mark_all-r.auto.work (c.fill.ensures.after (λ y e. e)),
)

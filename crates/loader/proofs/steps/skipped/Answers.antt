-- `loader::steps::skipped` meets its contract. Assumes nothing.
use Rattle.loader.proofs.Stepping.{quietly_past}
use Rattle.loader.proofs.steps.skipped.Goals as goal

pub returns-in-Skip : goal.returns-in-Skip
returns-in-Skip c = quietly_past _ _ _ _ _ _ _ c.requires c.in-Skip.is c.past.ensures.leads

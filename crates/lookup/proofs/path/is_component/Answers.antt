-- `lookup::path::is_component` meets its contract. Assumes nothing.
use Rattle.lookup.proofs.Splits.{component_not, component_is}
use Rattle.lookup.proofs.path.is_component.Goals as goal

pub returns-then-name-lt1 : goal.returns-then-name-lt1
returns-then-name-lt1 c = component_not _ c.then-name-lt1.either

pub returns : goal.returns
returns c = search component_is depth 7

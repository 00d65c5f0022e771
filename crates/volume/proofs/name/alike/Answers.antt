-- `volume::name::alike` meets its contract. Assumes nothing.
use Rattle.volume.proofs.Names.{together, apart}
use Rattle.volume.proofs.name.alike.Goals as goal

pub returns-then-x-y : goal.returns-then-x-y
returns-then-x-y c = search together depth 7

pub returns-then-x-y-2 : goal.returns-then-x-y-2
returns-then-x-y-2 c = search apart depth 7

pub returns : goal.returns
returns c = cc

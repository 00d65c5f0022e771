-- `volume::disk::kind_in` meets its contract. Assumes nothing.
use Rattle.volume.proofs.Tags.{kind_short, kind_named, kind_old}
use Rattle.volume.proofs.disk.kind_in.Goals as goal

pub returns-then-image-lt4 : goal.returns-then-image-lt4
returns-then-image-lt4 c = search kind_short depth 7

pub returns-then-last : goal.returns-then-last
returns-then-last c = search kind_named depth 7

pub returns : goal.returns
returns c = search kind_old depth 7

-- `volume::disk::size_for` meets its contract. Assumes nothing.
use Rattle.volume.proofs.Disks.{size_any, size_own, size_other}
use Rattle.volume.proofs.disk.size_for.Goals as goal

pub returns-then-named-eq-ANY_SIZE : goal.returns-then-named-eq-ANY_SIZE
returns-then-named-eq-ANY_SIZE c = search size_any depth 7

pub returns-then-named-own : goal.returns-then-named-own
returns-then-named-own c = search size_own depth 7

pub returns : goal.returns
returns c = search size_other depth 7

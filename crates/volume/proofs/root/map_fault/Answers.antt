-- `volume::root::map_fault` meets its contract. Assumes nothing.
use Rattle.volume.proofs.Faults.{map_invalid, map_good, map_rest}
use Rattle.volume.proofs.root.map_fault.Goals as goal

pub returns-then-word_of : goal.returns-then-word_of
returns-then-word_of c = search map_invalid depth 7

pub returns-then-unused_zero : goal.returns-then-unused_zero
returns-then-unused_zero c = search map_good depth 7

pub returns-else-unused_zero : goal.returns-else-unused_zero
returns-else-unused_zero c = search map_rest depth 7

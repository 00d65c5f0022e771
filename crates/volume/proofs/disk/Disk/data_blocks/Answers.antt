-- `volume::disk::Disk::data_blocks` meets its contract. Assumes nothing.
use native.Mathlib.Omega.{arith}
use Rattle.volume.proofs.Sizes.{limit_most, blocks_old, blocks_fast}
use Rattle.volume.proofs.disk.Disk.data_blocks.Goals as goal

pub overflow_add-result : goal.overflow_add-result
overflow_add-result c = omega (arith, limit_most c.args.self c.requires.0)

pub returns-then-is_old : goal.returns-then-is_old
returns-then-is_old c = search blocks_old depth 7

pub overflow_add-result-2 : goal.overflow_add-result-2
overflow_add-result-2 c = omega (arith, limit_most c.args.self c.requires.0)

pub returns : goal.returns
returns c = search blocks_fast depth 7

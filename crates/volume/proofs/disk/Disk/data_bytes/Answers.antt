-- `volume::disk::Disk::data_bytes` meets its contract. Assumes nothing.
use native.Mathlib.Omega.{arith}
use Rattle.volume.proofs.Sizes.{data_old, data_fast}
use Rattle.volume.proofs.disk.Disk.data_bytes.Goals as goal

pub returns-then-is_old : goal.returns-then-is_old
returns-then-is_old c = (search data_old depth 7, (omega arith, omega arith))

pub returns : goal.returns
returns c = (search data_fast depth 7, (omega arith, omega arith))

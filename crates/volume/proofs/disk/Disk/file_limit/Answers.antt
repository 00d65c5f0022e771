-- `volume::disk::Disk::file_limit` meets its contract. Assumes nothing.
use native.Mathlib.Omega.{arith}
use Rattle.volume.proofs.Sizes.{limit_fits}
use Rattle.volume.proofs.disk.Disk.file_limit.Goals as goal

pub overflow_mul-result : goal.overflow_mul-result
overflow_mul-result c =
    omega (
      arith,
      limit_fits c.data_bytes.result c.data_bytes.ensures.1.1 c.args.self
          c.requires,
    )

pub returns : goal.returns
returns c = rw c.data_bytes.ensures.0

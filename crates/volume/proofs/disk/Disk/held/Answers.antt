-- `volume::disk::Disk::held` meets its contract. Assumes nothing.
use native.Mathlib.Omega.{arith}
use Rattle.volume.proofs.Sizes.{before_fits, held_none, held_full, held_rest}
use Rattle.volume.proofs.disk.Disk.held.Goals as goal

pub overflow_mul-before : goal.overflow_mul-before
overflow_mul-before c =
    omega (
      arith,
      before_fits c.data_bytes-full.result c.data_bytes-full.ensures.1.1 c.args.n (omega arith),
    )

pub returns-then-size-before : goal.returns-then-size-before
returns-then-size-before c = search held_none

pub returns-then-full-size : goal.returns-then-full-size
returns-then-full-size c = search held_full

pub returns : goal.returns
returns c = search held_rest

-- What is accepted fits the memory.
use Prim.Native.Nat.{ℕ, ◌≤◌}
use mathlib.Core.Path.{◌≡◌}
use mathlib.Core.List.{List}
use native.Mathlib.Omega.{arith}
use lib.ListN.{length}
use Rattle.std.specs.Prelude.{Ok}
use Rattle.program.specs.declared.check.Extent.{Extent}
use Rattle.program.specs.Check.{Answer}
use Rattle.loader.specs.Calls.{records_in, Loads}
use Rattle.loader.proofs.Answering.{load_facts}

pub fits :
    (file bases m table w : List ℕ) (r : Answer) (m1 t1 w1 : List ℕ) (x : Extent) →
    Loads file bases m table w r m1 t1 w1 → length m1 ≡ length m → r ≡ Ok x → x.bytes ≤ length m1
fits file bases m table w r m1 t1 w1 x l k e =
    let f = load_facts file bases (length m) (records_in table) (length w) x.hunks x.bytes r l.answer e in
    omega (arith, f.fits, f.file_accepted.bytes)

-- Of two constructors that differ, `cc` makes 0 equal to 1; anything follows. Assumes nothing.
use Prim.Native.Nat.{ℕ}
use mathlib.Core.Path.{◌≡◌}
use native.Mathlib.Omega.{arith}

pub impossible : {X : Type 0} → ◌≡◌ {A = ℕ} 0 1 → X
impossible e = absurd (omega arith)

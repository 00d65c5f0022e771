use Prim.Native.Nat.{◌≤◌, ◌-◌, ◌+◌}
use mathlib.Core.Path.{◌≡◌}
use Rattle.volume.specs.Rules.{all_zero}
use Rattle.volume.proofs.root.unused_zero.Given as goal

abbrev pub invariant-loop-i : goal.invariant-loop-i
invariant-loop-i l = (l.i ≤ 25) × (all_zero l.image l.root (80 + l.i) (25 - l.i) ≡ all_zero l.image l.root 80 25)

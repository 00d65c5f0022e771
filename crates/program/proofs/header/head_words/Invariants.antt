use Prim.Native.Nat.{◌-◌, ◌+◌}
use mathlib.Core.Path.{◌≡◌}
use Rattle.program.specs.Header.{heads}
use Rattle.program.proofs.header.head_words.Given as goal

-- the words that are left decide
abbrev pub invariant-loop-i : goal.invariant-loop-i
invariant-loop-i l = heads l.file l.from l.n ≡ heads l.file l.i-counter (l.from + l.n - l.i-counter)

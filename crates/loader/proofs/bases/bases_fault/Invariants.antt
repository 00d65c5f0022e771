use Rattle.std.proofs.Common.{◌≡◌, ◌-◌}
use Rattle.loader.specs.Bases.{bases_from, bases_fault}
use Rattle.loader.proofs.bases.bases_fault.Given as goal

-- the entries that are left decide
abbrev pub invariant-loop-i : goal.invariant-loop-i
invariant-loop-i l = bases_fault l.file l.bases l.from ≡ bases_from l.file l.bases l.from l.i (l.t - l.i)

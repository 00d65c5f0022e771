use Rattle.std.proofs.Common.{◌≡◌}
use Rattle.loader.specs.Bases.{shares}
use Rattle.loader.proofs.bases.shares_any.Given as goal

-- the hunks that are left decide
abbrev pub invariant-loop-j : goal.invariant-loop-j
invariant-loop-j l = shares l.file l.bases l.i l.i ≡ shares l.file l.bases l.i l.j

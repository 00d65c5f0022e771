-- Each image so far is counted.
use Rattle.std.proofs.Common.{◌≡◌, ◌+◌}
use Rattle.bench.specs.Tallies.{images}
use Rattle.bench.proofs.volumes.audit_each.Given as goal

abbrev pub invariant-loop-i : goal.invariant-loop-i
invariant-loop-i l = l.initial.i + images l.tally ≡ l.i

use Rattle.std.proofs.Common.{◌≡◌}
use Rattle.reading.specs.Parts.{lister_at}
use Rattle.reading.proofs.copy.Listed.seek.Given as goal

abbrev pub invariant-loop : goal.invariant-loop
invariant-loop l = l.block ≡ lister_at l.image l.header l.counter

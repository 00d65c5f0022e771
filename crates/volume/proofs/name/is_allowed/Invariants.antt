use Rattle.std.proofs.Common.{◌≡◌, drop}
use Rattle.volume.specs.Names.{allowed}
use Rattle.volume.proofs.name.is_allowed.Given as goal

abbrev pub invariant-loop-b : goal.invariant-loop-b
invariant-loop-b l = allowed (drop l.b-index l.name) ≡ allowed l.name

use Rattle.std.proofs.Common.{◌≡◌, ◌≤◌, length, drop}
use Rattle.volume.specs.Names.{hash_from}
use Rattle.volume.proofs.name.slot.Given as goal

abbrev pub invariant-loop-b : goal.invariant-loop-b
invariant-loop-b l = record {
  small : l.h ≤ 2048;
  goes_on : hash_from l.disk l.h (drop l.b-index l.name) ≡ hash_from l.disk (length l.name) l.name;
}

use Rattle.std.proofs.Common.{ℕ, ◌≡◌, ◌<◌, length, get_or}
use Rattle.volume.specs.Names.{fold_of}
use Rattle.volume.proofs.name.same.Given as goal

abbrev pub invariant-loop-x : goal.invariant-loop-x
invariant-loop-x l =
    (k : ℕ) → k < length l.yielded → fold_of l.disk (get_or l.xs k 0) ≡ fold_of l.disk (get_or l.ys k 0)

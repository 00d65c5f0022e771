use Rattle.std.proofs.Common.{◌≡◌, ◌*◌, ◌^◌, ◌≤◌}
use Rattle.words.specs.Lanes.{low_at, odd_at, most_odd}
use Rattle.words.proofs.Turns.{block_turns, turns}
use Rattle.words.proofs.block_sum.Given as goal

abbrev pub invariant-loop-i : goal.invariant-loop-i
invariant-loop-i l =
    (l.i ≤ block_turns) × (l.low ≡ turns (low_at l.bytes) l.at l.i) × (l.odd ≡ turns (odd_at l.bytes) l.at l.i)
    × (l.low ≤ l.i * (8 * 2 ^ 32))
    × (l.odd ≤ l.i * (8 * most_odd))

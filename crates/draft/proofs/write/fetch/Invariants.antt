-- The writes from i on do not name the block: it is as the first i writes leave it.
use Rattle.std.proofs.Common.{◌≡◌, ◌≤◌}
use Rattle.writes.specs.Writes.{carried, writes_in, block_of}
use Rattle.draft.proofs.write.fetch.Given as goal

abbrev pub invariant-loop-i : goal.invariant-loop-i
invariant-loop-i l =
    (l.i ≤ l.n)
    × (l.blocks ≡ l.initial.blocks)
    × (block_of (carried l.image (writes_in l.order l.initial.blocks l.n)) l.key
    ≡ block_of (carried l.image (writes_in l.order l.initial.blocks l.i)) l.key)

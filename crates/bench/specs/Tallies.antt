-- Tallies of images.
use Rattle.std.specs.Prelude.{ℕ, ◌+◌, ◌≤◌}
use Rattle.bench.specs.declared.volumes.Tally.{Tally}

-- how many images are counted
abbrev pub images : Tally → ℕ
images t = t.accepted + t.refused + t.unread

-- none grows by more than one
pub record OneMore (t u : Tally) : Type 0 where
  pub accepted : u.accepted ≤ t.accepted + 1
  pub refused : u.refused ≤ t.refused + 1
  pub unread : u.unread ≤ t.unread + 1

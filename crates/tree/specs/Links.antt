-- The words of a block that may change while its entry stays what it is: its sum and its links.
use Rattle.std.specs.Prelude.{ℕ, ◌≤◌, ◌≡◌, ◌⊎◌, true, List}
use Rattle.volume.specs.Blocks.{directory}

-- w6 to w77
abbrev pub Slot : ℕ → Type 0
Slot j = (6 ≤ j) × (j ≤ 77)

-- of the entry k: w5, w124, and the slots of a directory
abbrev pub Links : List ℕ → ℕ → ℕ → Type 0
Links s k j = (j ≡ 5) ⊎ (j ≡ 124) ⊎ ((directory s k ≡ true) × Slot j)

-- of the root: w5, w78 and the slots
abbrev pub RootLinks : ℕ → Type 0
RootLinks j = (j ≡ 5) ⊎ (j ≡ 78) ⊎ Slot j

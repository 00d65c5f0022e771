-- Two images that have the same bytes in a block, but for some of its words.
use Rattle.std.specs.Prelude.{ℕ, ◌+◌, ◌*◌, ◌/◌, ◌<◌, ◌≡◌, List, get_or}
use Rattle.volume.specs.Blocks.{block_bytes}

-- block k has the same bytes in s and t, but for the words that `But` names
abbrev pub Alike : (ℕ → Type 0) → List ℕ → List ℕ → ℕ → Type 0
Alike But s t k =
    (i : ℕ) → i < block_bytes → ¬ (But (i / 4)) → get_or t (k * block_bytes + i) 0 ≡ get_or s (k * block_bytes + i) 0

-- none of its words
abbrev pub Nowhere : ℕ → Type 0
Nowhere j = ⊥

-- block k has the same bytes
abbrev pub SameBlock : List ℕ → List ℕ → ℕ → Type 0
SameBlock s t k = Alike Nowhere s t k

-- What the code that makes a write asks and promises.
use Rattle.std.specs.Prelude.{◌≡◌, ℕ, ◌<◌, List, length, slice_index, slice_set}
use Rattle.volume.specs.Blocks.{Holds}
use Rattle.writes.specs.Writes.{put}

-- the first n keys of an order are blocks of the image
abbrev pub Inside : List ℕ → List ℕ → ℕ → Type 0
Inside s order n = (i : ℕ) → i < n → Holds s (slice_index order i)

-- there is room for write n, which is one of block k, and the writes before it are in place
pub record Room (s order blocks : List ℕ) (n k : ℕ) : Type 0 where
  pub entries : n < length order
  pub whole : Holds blocks n
  pub key : Holds s k
  pub before : Inside s order n

-- write n is of block k, with b as its block; all else stays
pub record Drafts (order blocks : List ℕ) (n k : ℕ) (b order' blocks' : List ℕ) : Type 0 where
  pub entry : order' ≡ slice_set order n k
  pub block : blocks' ≡ put blocks n b

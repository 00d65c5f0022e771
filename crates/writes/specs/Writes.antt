-- A write is a key and the block that goes there. A driver carries writes out one by one, so a cut is the first j of
-- them and no more (docs/FORMAT.md, "Writes").
use Rattle.std.specs.Prelude.{ℕ, zero, suc, ◌-◌, ◌*◌, ◌^◌, ◌≡◌, List, [], ◌∷◌, ◌++◌, length, get_or, set, take, drop}
use Rattle.std.proofs.Math.Seq.{paste}
use Rattle.words.specs.Word.{set_word, add_at}
use Rattle.words.specs.Sum.{sum_at}
use Rattle.volume.specs.Blocks.{block_bytes, Holds}

pub record Write : Type 0 where
  pub key : ℕ
  pub block : List ℕ

abbrev pub write : ℕ → List ℕ → Write
write k b = record { key = k; block = b }

-- its block lies in the image, and it is a whole block
pub record FitsInto (s : List ℕ) (w : Write) : Type 0 where
  pub inside : Holds s w.key
  pub whole : length w.block ≡ block_bytes

abbrev pub AllFit : List ℕ → List Write → Type 0
AllFit s [] = Unit {0}
AllFit s (w ∷ ws) = FitsInto s w × AllFit s ws

-- ---- an image after writes

-- block k of an image, or of an area of blocks
abbrev pub block_of : List ℕ → ℕ → List ℕ
block_of s k = take block_bytes (drop (k * block_bytes) s)

-- the image with b as its block k
unfoldable pub put : List ℕ → ℕ → List ℕ → List ℕ
put s k b = paste s (k * block_bytes) b block_bytes

-- the image after all of the writes; after a cut at j it is `carried s (take j ws)`
abbrev pub carried : List ℕ → List Write → List ℕ
carried s [] = s
carried s (w ∷ ws) = carried (put s w.key w.block) ws

-- ---- writes in two lent areas

-- the first n: keys, and blocks one after the other
unfoldable pub writes_in : List ℕ → List ℕ → ℕ → List Write
writes_in order blocks zero = []
writes_in order blocks (suc n) = writes_in order blocks n ++ (write (get_or order n 0) (block_of blocks n) ∷ [])

-- the areas with the writes ws in them, from entry i on: all else stays
abbrev pub order_with : List ℕ → ℕ → List Write → List ℕ
order_with order i [] = order
order_with order i (w ∷ ws) = order_with (set order i w.key) (suc i) ws

abbrev pub blocks_with : List ℕ → ℕ → List Write → List ℕ
blocks_with blocks i [] = blocks
blocks_with blocks i (w ∷ ws) = blocks_with (put blocks i w.block) (suc i) ws

-- ---- a block that is made from another

-- block b with its sum mended in word j: what is added there makes the sum 0
unfoldable pub mended : ℕ → List ℕ → List ℕ
mended j b = add_at b (4 * j) (2 ^ 32 - sum_at b 0)

-- block k of the image s with v in its word j, and its sum mended in w5
unfoldable pub edited : List ℕ → ℕ → ℕ → ℕ → List ℕ
edited s k j v = mended 5 (set_word (block_of s k) (4 * j) v)

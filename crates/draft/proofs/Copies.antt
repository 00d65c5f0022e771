-- A block copied as a part of an area. Assumes nothing.
use Rattle.std.proofs.Common.{◌≡◌, ℕ, ◌*◌, List, take, drop, sym, refl}
use borrow.Rule.Slice.PartMut.{put_mid}
use Rattle.std.proofs.lemmas.Slice.{put_mid-paste}
use Rattle.volume.specs.Blocks.{block_bytes, Holds}
use Rattle.writes.specs.Writes.{put, block_of}
use Rattle.writes.proofs.Edits.{length_block}

pub block_copied : (s r b : List ℕ) (k i m n : ℕ) → m ≡ block_bytes → n ≡ block_bytes → Holds b i
    → r ≡ take n (drop (i * block_bytes) b) → put_mid (k * block_bytes) m s r ≡ put s k (block_of b i)
unfolding put
block_copied s r b k i m n p q h e =
    rw p (put_mid-paste (k * block_bytes) block_bytes s r (block_of b i) block_bytes (rw q at e) refl
    (sym (length_block b i h)))

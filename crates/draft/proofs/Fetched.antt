-- A block as writes in two lent areas leave it: the last of them that names it, or else the image's own; and a block
-- that is written twice. Assumes nothing.
use Rattle.std.proofs.Common.{◌≡◌, ◌≢◌, ℕ, zero, suc, ◌+◌, ◌*◌, ◌<◌, ◌≤◌, List, [], ◌∷◌, ◌++◌, length, get_or, take}
use Rattle.std.proofs.Common.{drop, sym, refl, ◌∙◌, add-one, arith}
use Rattle.std.proofs.lemmas.Slice.{put_mid-paste}
use borrow.Rule.Slice.PartMut.{put_mid}
use Rattle.words.specs.Word.{set_word}
use Rattle.words.specs.Sum.{block_words}
use Rattle.words.proofs.Words.{length_set_word}
use Rattle.volume.specs.Blocks.{block_bytes, Holds}
use Rattle.writes.specs.Writes.{Write, write, AllFit, put, block_of, carried, writes_in, mended, edited}
use Rattle.writes.proofs.Puts.{length_put, put_other, put_twice}
use Rattle.writes.proofs.Mending.{length_mended}
use Rattle.writes.proofs.Edits.{length_block, block_put_same, block_same}
use Rattle.writes.proofs.Carrying.{length_carried, carried_more}
use Rattle.draft.specs.Parts.{Inside, Room}

-- ---- the writes before fit the image

append_fit : (s : List ℕ) (xs ys : List Write) → AllFit s xs → AllFit s ys → AllFit s (xs ++ ys)
append_fit s [] ys a b = b
append_fit s (w ∷ xs) ys a b = (a.0, append_fit s xs ys a.1 b)

fit_in : (s order blocks : List ℕ) (n : ℕ) → Inside s order n → n * block_bytes ≤ length blocks
    → AllFit s (writes_in order blocks n)
unfolding writes_in
fit_in s order blocks zero f h = tt
fit_in s order blocks (suc n) f h =
    append_fit s (writes_in order blocks n) (write (get_or order n 0) (block_of blocks n) ∷ [])
    (fit_in s order blocks n (λ i l. f i (omega (arith, l))) (omega (arith, h)))
    (record { inside = f n (omega arith); whole = length_block blocks n (omega (arith, h)) }, tt)

length_after : (s order blocks : List ℕ) (n : ℕ) → Inside s order n → n * block_bytes ≤ length blocks
    → length (carried s (writes_in order blocks n)) ≡ length s
length_after s order blocks n f h = length_carried s (writes_in order blocks n) (fit_in s order blocks n f h)

pub holds_after : (s order blocks : List ℕ) (n k : ℕ) → Room s order blocks n k
    → Holds (carried s (writes_in order blocks n)) k
holds_after s order blocks n k r =
    let l = length_after s order blocks n r.before (omega (arith, r.whole)) in omega (arith, l, r.key)

-- ---- a block after one write more

module _ (s order blocks : List ℕ) (i k : ℕ) (before : Inside s order (i + 1)) (whole : Holds blocks i)
    (inside : Holds s k) where
  length_before : length (carried s (writes_in order blocks i)) ≡ length s
  length_before = length_after s order blocks i (λ j l. before j (omega (arith, l))) (omega (arith, whole))

  -- it names the block
  pub fetched_here : get_or order i 0 ≡ k → block_of (carried s (writes_in order blocks (i + 1))) k ≡ block_of blocks i
  fetched_here e =
      rw (add-one i, carried_more s order blocks i, e)
      (block_put_same (carried s (writes_in order blocks i)) k (block_of blocks i)
      (omega (arith, inside, length_before)) (length_block blocks i whole))

  -- it names another
  pub fetched_below : get_or order i 0 ≢ k
      → block_of (carried s (writes_in order blocks (i + 1))) k ≡ block_of (carried s (writes_in order blocks i)) k
  fetched_below n =
      let t : List ℕ = carried s (writes_in order blocks i) in
      let h : Holds t (get_or order i 0) = omega (arith, before i (omega arith), length_before) in
      let w : length (block_of blocks i) ≡ block_bytes = length_block blocks i whole in
      rw (add-one i, carried_more s order blocks i)
      (block_same t (put t (get_or order i 0) (block_of blocks i)) k (omega (arith, inside, length_before))
      (length_put t (get_or order i 0) (block_of blocks i) h w)
      (put_other t (get_or order i 0) (block_of blocks i) h w k (λ e. n (sym e))))

-- no write names it
pub fetched_image : (s order blocks : List ℕ) (k : ℕ) → block_of (carried s (writes_in order blocks 0)) k ≡ block_of s k
unfolding writes_in
fetched_image s order blocks k = refl

-- ---- a block that is written twice

-- by way of another area
pub put_over : (z b : List ℕ) (i : ℕ) → Holds b i → Holds z 0 → block_of (put z 0 (block_of b i)) 0 ≡ block_of b i
put_over z b i h g = block_put_same z 0 (block_of b i) g (length_block b i h)

-- edited as a part of the area
pub part_edited : (s r : List ℕ) (n j v at m : ℕ) → at ≡ n * block_bytes → m ≡ block_bytes → Holds s n → j < block_words
    → r ≡ mended 5 (set_word (take m (drop at s)) (4 * j) v) → put_mid at m s r ≡ put s n (edited s n j v)
unfolding put edited
part_edited s r n j v at m a b h low e =
    let c : List ℕ = mended 5 (set_word (block_of s n) (4 * j) v) in
    let l : length c ≡ block_bytes =
    length_mended 5 (set_word (block_of s n) (4 * j) v) (omega arith)
    (length_set_word (block_of s n) (4 * j) v ∙ length_block s n h)
    in
    let f : r ≡ c = rw (a, b) at e in
    rw (a, b) (put_mid-paste (n * block_bytes) block_bytes s r c block_bytes f refl (sym l))

-- and edited where it was put
pub put_edited : (blocks t : List ℕ) (n k j v : ℕ) → Holds blocks n → Holds t k → j < block_words
    → put (put blocks n (block_of t k)) n (edited (put blocks n (block_of t k)) n j v) ≡ put blocks n (edited t k j v)
unfolding edited
put_edited blocks t n k j v h g low =
    let b : List ℕ = block_of t k in
    let w : length b ≡ block_bytes = length_block t k g in
    let c : List ℕ = mended 5 (set_word b (4 * j) v) in
    let l : length c ≡ block_bytes =
    length_mended 5 (set_word b (4 * j) v) (omega arith) (length_set_word b (4 * j) v ∙ w)
    in
    rw (block_put_same blocks n b h w) (put_twice blocks n b c h w l)

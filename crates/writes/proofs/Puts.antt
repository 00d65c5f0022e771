-- One block written: the length stays, the block is what was written, every other block is what it was, and the
-- last of two writes counts.
-- Assumes nothing.
use Prim.Native.Nat.{ℕ, suc, ◌+◌, ◌-◌, ◌*◌, ◌<◌, ◌≤◌}
use mathlib.Core.Path.{◌≡◌, refl, sym, ap, ◌∙◌}
use mathlib.Core.Logic.{◌≢◌, ◌⊎◌, inl, inr}
use mathlib.Core.List.{List, ◌++◌}
use native.Mathlib.Omega.{arith}
use native.Mathlib.Decide.{dec_lt}
use lib.ListN.{length, get_or, take, drop, get_or-append}
use lib.Seq.{paste, length-paste, length-take-le, length_paste_head, get_or-append-add, get_or-take, get_or-drop}
use lib.Seq.{ext_get_or}
use Rattle.words.specs.Word.{word_at}
use Rattle.words.specs.Sum.{sum_at, total}
use Rattle.volume.specs.Blocks.{block_bytes, Holds, word_of, sum_of}
use Rattle.writes.specs.Alike.{SameBlock}
use Rattle.writes.specs.Writes.{put}

-- ---- bytes of a paste

module _ (d : List ℕ) (at : ℕ) (b : List ℕ) (n : ℕ) (hd : at + n ≤ length d) (hb : n ≤ length b) where
  paste_below : (i : ℕ) → i < at → get_or (paste d at b n) i 0 ≡ get_or d i 0
  paste_below i h =
      let e : length (take at d ++ take n b) ≡ at + n = length_paste_head d at b n (omega arith) hb in
      let f : length (take at d) ≡ at = length-take-le at d (omega arith) in
      get_or-append (take at d ++ take n b) (drop (at + n) d) 0 i (omega arith)
      ∙ get_or-append (take at d) (take n b) 0 i (omega arith)
      ∙ get_or-take at d i 0 h

  paste_in : (i : ℕ) → i < n → get_or (paste d at b n) (at + i) 0 ≡ get_or b i 0
  paste_in i h =
      let e : length (take at d ++ take n b) ≡ at + n = length_paste_head d at b n (omega arith) hb in
      let f : length (take at d) ≡ at = length-take-le at d (omega arith) in
      get_or-append (take at d ++ take n b) (drop (at + n) d) 0 (at + i) (omega arith)
      ∙ ap (λ x. get_or (take at d ++ take n b) (x + i) 0) (sym f)
      ∙ get_or-append-add (take at d) (take n b) i 0
      ∙ get_or-take n b i 0 h

  paste_above : (i : ℕ) → get_or (paste d at b n) (at + n + i) 0 ≡ get_or d (at + n + i) 0
  paste_above i =
      let e : length (take at d ++ take n b) ≡ at + n = length_paste_head d at b n (omega arith) hb in
      ap (λ x. get_or (paste d at b n) (x + i) 0) (sym e)
      ∙ get_or-append-add (take at d ++ take n b) (drop (at + n) d) i 0
      ∙ get_or-drop (at + n) d i 0

-- ---- a write

module _ (s : List ℕ) (k : ℕ) (b : List ℕ) (inside : Holds s k) (whole : length b ≡ block_bytes) where
  pub length_put : length (put s k b) ≡ length s
  unfolding put
  length_put = length-paste s (k * block_bytes) b block_bytes inside (omega arith)

  pub put_in : (i : ℕ) → i < block_bytes → get_or (put s k b) (k * block_bytes + i) 0 ≡ get_or b i 0
  unfolding put
  put_in i h = paste_in s (k * block_bytes) b block_bytes inside (omega arith) i h

  pub put_out : (i : ℕ) → (i < k * block_bytes) ⊎ (k * block_bytes + block_bytes ≤ i)
      → get_or (put s k b) i 0 ≡ get_or s i 0
  unfolding put
  put_out i (inl h) = paste_below s (k * block_bytes) b block_bytes inside (omega arith) i h
  put_out i (inr h) =
      let e : k * block_bytes + block_bytes + (i - (k * block_bytes + block_bytes)) ≡ i = omega arith in
      rw e at (paste_above s (k * block_bytes) b block_bytes inside (omega arith) (i - (k * block_bytes + block_bytes)))

  -- every other block stays
  pub put_other : (j : ℕ) → j ≢ k → SameBlock s (put s k b) j
  put_other j h i l _ = put_out (j * block_bytes + i) (go (dec_lt j k))
    where
      go : Dec (j < k) → (j * block_bytes + i < k * block_bytes) ⊎ (k * block_bytes + block_bytes ≤ j * block_bytes + i)
      go (yes p) = inl (omega arith)
      go (no p) = let q : k < j = omega arith in inr (omega arith)

  -- the written block's words and sum
  pub word_put : (j : ℕ) → j < 128 → word_of (put s k b) k j ≡ word_at b (4 * j)
  unfolding word_at
  word_put j h =
      let e1 : k * block_bytes + 4 * j + 1 ≡ k * block_bytes + (4 * j + 1) = omega arith in
      let e2 : k * block_bytes + 4 * j + 2 ≡ k * block_bytes + (4 * j + 2) = omega arith in
      let e3 : k * block_bytes + 4 * j + 3 ≡ k * block_bytes + (4 * j + 3) = omega arith in
      rw (
        e1,
        e2,
        e3,
        put_in (4 * j) (omega arith),
        put_in (4 * j + 1) (omega arith),
        put_in (4 * j + 2)
            (omega arith),
        put_in (4 * j + 3) (omega arith),
      ) refl

  total_put : (n : ℕ) → n ≤ 128 → total (put s k b) (k * block_bytes) n ≡ total b 0 n
  unfolding total
  total_put ℕ.zero h = refl
  total_put (suc n) h =
      let z : 0 + 4 * n ≡ 4 * n = omega arith in rw (total_put n (omega arith), word_put n (omega arith), z) refl

  pub sum_put : sum_of (put s k b) k ≡ sum_at b 0
  unfolding sum_at
  sum_put = rw (total_put 128 (omega arith)) refl

-- the last of two writes to one block counts
pub put_twice : (s : List ℕ) (k : ℕ) (b c : List ℕ) → Holds s k → length b ≡ block_bytes → length c ≡ block_bytes
    → put (put s k b) k c ≡ put s k c
put_twice s k b c h p q =
    let l : length (put s k b) ≡ length s = length_put s k b h p in
    let g : Holds (put s k b) k = omega arith in
    ext_get_or 0 (put (put s k b) k c) (put s k c)
    (length_put (put s k b) k c g q ∙ l ∙ sym (length_put s k c h q))
    (λ i _. go i g (dec_lt i (k * block_bytes)) (dec_lt i (k * block_bytes + block_bytes)))
  where
    go : (i : ℕ) → Holds (put s k b) k → Dec (i < k * block_bytes) → Dec (i < k * block_bytes + block_bytes)
        → get_or (put (put s k b) k c) i 0 ≡ get_or (put s k c) i 0
    go i g (yes a) e =
        put_out (put s k b) k c g q i (inl a) ∙ put_out s k b h p i (inl a) ∙ sym (put_out s k c h q i (inl a))
    go i g (no a) (yes e) =
        let f : k * block_bytes + (i - k * block_bytes) ≡ i = omega arith in
        rw f at (put_in (put s k b) k c g q (i - k * block_bytes) (omega arith) ∙ sym
        (put_in s k c h q (i - k * block_bytes) (omega arith)))
    go i g (no a) (no e) =
        let o : (i < k * block_bytes) ⊎ (k * block_bytes + block_bytes ≤ i) = inr (omega arith) in
        put_out (put s k b) k c g q i o ∙ put_out s k b h p i o ∙ sym (put_out s k c h q i o)

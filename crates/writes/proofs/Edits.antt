-- A block of an image with one word changed and its sum mended in w5, put back (`edited_alike`, `edited_word`,
-- `edited_sum`). Assumes nothing.
use Prim.Native.Nat.{ℕ, ◌+◌, ◌*◌, ◌/◌, ◌^◌, ◌<◌}
use mathlib.Core.Path.{◌≡◌, refl, sym, ◌∙◌}
use mathlib.Core.Logic.{◌≢◌, ◌⊎◌, inl, inr}
use mathlib.Core.List.{List}
use native.Mathlib.Omega.{arith}
use native.Mathlib.Decide.{dec_lt}
use lib.ListN.{length, get_or, drop, length-drop}
use lib.Seq.{length-take-le, get_or-take, get_or-drop, ext_get_or}
use Rattle.words.specs.Word.{word_at, set_word}
use Rattle.words.proofs.Words.{Off, length_set_word, set_word_below, set_word_above, word_at_same}
use Rattle.volume.specs.Blocks.{block_bytes, Holds, word_of, sum_of}
use Rattle.writes.specs.Writes.{block_of, put, edited}
use Rattle.writes.specs.Alike.{Alike, SameBlock}
use Rattle.writes.proofs.Puts.{length_put, put_in, put_other, word_put, sum_put}
use Rattle.writes.proofs.Mending.{length_mended, sum_mended, word_mended, byte_mended}

-- a place of another word
off_word : (i j : ℕ) → ¬ (i / 4 ≡ j) → Off i (4 * j)
off_word i j n = go (dec_lt i (4 * j)) (dec_lt i (4 * j + 4))
  where
    go : Dec (i < 4 * j) → Dec (i < 4 * j + 4) → Off i (4 * j)
    go (yes h) g = inl h
    go (no h) (yes g) = absurd (n (omega arith))
    go (no h) (no g) = inr (omega arith)

module _ (s : List ℕ) (k : ℕ) (inside : Holds s k) where
  pub length_block : length (block_of s k) ≡ block_bytes
  length_block = length-take-le block_bytes (drop (k * block_bytes) s)
      (rw (length-drop (k * block_bytes) s) (omega arith))

  pub block_byte : (i : ℕ) → i < block_bytes → get_or (block_of s k) i 0 ≡ get_or s (k * block_bytes + i) 0
  block_byte i l = get_or-take block_bytes (drop (k * block_bytes) s) i 0 l ∙ get_or-drop (k * block_bytes) s i 0

  pub block_word : (j : ℕ) → j < 128 → word_at (block_of s k) (4 * j) ≡ word_of s k j
  unfolding word_at
  block_word j l =
      let e1 : k * block_bytes + 4 * j + 1 ≡ k * block_bytes + (4 * j + 1) = omega arith in
      let e2 : k * block_bytes + 4 * j + 2 ≡ k * block_bytes + (4 * j + 2) = omega arith in
      let e3 : k * block_bytes + 4 * j + 3 ≡ k * block_bytes + (4 * j + 3) = omega arith in
      rw (
        e1,
        e2,
        e3,
        block_byte (4 * j) (omega arith),
        block_byte (4 * j + 1) (omega arith),
        block_byte
            (4 * j + 2) (omega arith),
        block_byte (4 * j + 3) (omega arith),
      ) refl

  module _ (j v : ℕ) (low : j < 128) (not-sum : j ≢ 5) (word : v < 2 ^ 32) where
    abbrev changed : List ℕ
    changed = set_word (block_of s k) (4 * j) v

    length_changed : length changed ≡ block_bytes
    length_changed = length_set_word (block_of s k) (4 * j) v ∙ length_block

    changed_byte : (i : ℕ) → Off i (4 * j) → get_or changed i 0 ≡ get_or (block_of s k) i 0
    changed_byte i (inl h) = set_word_below (block_of s k) (4 * j) v i h
    changed_byte i (inr h) = set_word_above (block_of s k) (4 * j) v i h

    pub length_edited : length (edited s k j v) ≡ block_bytes
    unfolding edited
    length_edited = length_mended 5 changed (omega arith) length_changed

    pub edited_long : length (put s k (edited s k j v)) ≡ length s
    edited_long = length_put s k (edited s k j v) inside length_edited

    pub edited_others : (i : ℕ) → i ≢ k → SameBlock s (put s k (edited s k j v)) i
    edited_others i n = put_other s k (edited s k j v) inside length_edited i n

    pub edited_alike : Alike (λ i. (i ≡ 5) ⊎ (i ≡ j)) s (put s k (edited s k j v)) k
    unfolding edited
    edited_alike i l n =
        put_in s k (edited s k j v) inside length_edited i l
        ∙ byte_mended 5 changed (omega arith) length_changed i (off_word i 5 (λ e. n (inl e)))
        ∙ changed_byte i (off_word i j (λ e. n (inr e)))
        ∙ block_byte i l

    pub edited_word : word_of (put s k (edited s k j v)) k j ≡ v
    unfolding edited
    edited_word =
        word_put s k (edited s k j v) inside length_edited j low
        ∙ word_mended 5 changed (omega arith) length_changed j not-sum
        ∙ word_at_same (block_of s k) (4 * j) v (omega (arith, length_block)) word

    pub edited_sum : sum_of (put s k (edited s k j v)) k ≡ 0
    unfolding edited
    edited_sum = sum_put s k (edited s k j v) inside length_edited ∙ sum_mended 5 changed (omega arith) length_changed

-- ---- a block of an image after a write: what code copies from

pub block_put_same : (s : List ℕ) (k : ℕ) (b : List ℕ) → Holds s k → length b ≡ block_bytes → block_of (put s k b) k ≡ b
block_put_same s k b h w =
    let l = length_put s k b h w in
    let g : Holds (put s k b) k = omega (arith, h, l) in
    let e = length_block (put s k b) k g in
    ext_get_or 0 (block_of (put s k b) k) b (e ∙ sym w)
    (λ i m. let q : i < block_bytes = omega (arith, m, e) in block_byte (put s k b) k g i q ∙ put_in s k b h w i q)

pub block_same : (s t : List ℕ) (k : ℕ) → Holds s k → length t ≡ length s → SameBlock s t k
    → block_of t k ≡ block_of s k
block_same s t k h l a =
    let g : Holds t k = omega (arith, h, l) in
    let e = length_block t k g in
    ext_get_or 0 (block_of t k) (block_of s k) (e ∙ sym (length_block s k h))
    (λ i m. let q : i < block_bytes = omega (arith, m, e) in block_byte t k g i q ∙ a i q (λ z. z) ∙ sym
    (block_byte s k h i q))

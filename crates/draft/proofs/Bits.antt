-- A word with one bit changed, as code makes it: the bit's power added, taken away, or neither. Assumes nothing.
use Rattle.std.proofs.Common.{◌≡◌, ℕ, ◌+◌, ◌-◌, ◌*◌, ◌/◌, ◌%◌, ◌^◌, ◌<◌, ◌≤◌, Bool, true, false, List, ◌∙◌, arith}
use Rattle.std.proofs.lemmas.Nat.{pow_below}
use Rattle.words.specs.Word.{word_at, set_word}
use Rattle.volume.specs.Bitmap.{bit_word, bit_number}
use Rattle.writes.specs.Bits.{bit_of, with_bit, set_bit}
use Rattle.writes.proofs.Bits.{bit_adds, bit_small}

module _ (w p : ℕ) (l : p < 32) where
  -- the bit's power fits a word
  power : (1 * 2 ^ p) % 4294967296 ≡ 2 ^ p
  power = omega (arith, pow_below p 32 l)

  -- what is there without the bit, and with it
  without : w / 2 ^ p % 2 ≡ 0 → (v : ℕ) → with_bit w p v ≡ w + v * 2 ^ p
  without z v = let h = bit_adds w p v in let g = rw z at h in omega (arith, g)

  with_it : (w / 2 ^ p % 2 ≡ 0 → ⊥) → (v : ℕ) → with_bit w p v + 2 ^ p ≡ w + v * 2 ^ p
  with_it z v =
      let y : w / 2 ^ p % 2 ≡ 1 = omega (arith, z) in let h = bit_adds w p v in let g = rw y at h in omega (arith, g)

  module _ (one : Bool) where
    pub bit_on : one ≡ true → w / 2 ^ p % 2 ≡ 0 → w + (1 * 2 ^ p) % 4294967296 ≡ with_bit w p (bit_of one)
    bit_on o z = rw (o, power) (omega (arith, without z 1))

    pub bit_fits : w < 2 ^ 32 → w / 2 ^ p % 2 ≡ 0 → w + (1 * 2 ^ p) % 4294967296 < 2 ^ 32
    bit_fits b z = rw power (omega (arith, without z 1, bit_small 32 w p 1 (omega arith) l b))

    pub bit_is_on : one ≡ true → (w / 2 ^ p % 2 ≡ 0 → ⊥) → w ≡ with_bit w p (bit_of one)
    bit_is_on o z = rw o (omega (arith, with_it z 1))

    pub bit_is_off : one ≡ false → w / 2 ^ p % 2 ≡ 0 → w ≡ with_bit w p (bit_of one)
    bit_is_off o z = rw o (omega (arith, without z 0))

    pub bit_below : (w / 2 ^ p % 2 ≡ 0 → ⊥) → (1 * 2 ^ p) % 4294967296 ≤ w
    bit_below z = rw power (omega (arith, with_it z 0))

    pub bit_off : one ≡ false → (w / 2 ^ p % 2 ≡ 0 → ⊥) → w - (1 * 2 ^ p) % 4294967296 ≡ with_bit w p (bit_of one)
    bit_off o z = rw (o, power) (omega (arith, with_it z 0))

-- the bit of a block, in the word that has it
pub is_set : (page r : List ℕ) (k word number w v : ℕ) (free : Bool) → word ≡ bit_word k → number ≡ bit_number k
    → w ≡ word_at page (4 * word) → v ≡ with_bit w number (bit_of free) → r ≡ set_word page (4 * word) v
    → r ≡ set_bit page k (bit_of free)
unfolding set_bit
is_set page r k word number w v free e f g h q = q ∙ rw (h, g, e, f)

-- Where two images are alike in a block, its words, its sum and its name are the same. Assumes nothing.
use Prim.Native.Nat.{ℕ, zero, suc, ◌+◌, ◌-◌, ◌*◌, ◌/◌, ◌<◌, ◌≤◌}
use mathlib.Core.Path.{◌≡◌, refl, sym, ap}
use mathlib.Core.Bool.{Bool, true, false}
use mathlib.Core.List.{List, ◌∷◌}
use native.Mathlib.Omega.{arith}
use native.Mathlib.Decide.{dec_le}
use lib.Dec.{leb}
use lib.ListN.{length, get_or}
use lib.Seq.{slice, slice-cons, slice_empty}
use borrow.Author.Tests.{lt-leb, leb-true}
use Rattle.answers.specs.Tests.{pick}
use Rattle.answers.proofs.Clashes.{impossible}
use Rattle.words.proofs.Words.{word_at_same_bytes}
use Rattle.words.proofs.Sums.{sum_at_same}
use Rattle.volume.specs.Blocks.{block_bytes, Holds, word_of, sum_of}
use Rattle.volume.specs.Names.{name_byte, name_length, name_from, name_of, name_good, longest, allowed}
use Rattle.writes.specs.Alike.{Alike, SameBlock}

-- ---- a part of a list

pub slice_same : (s t : List ℕ) (f n : ℕ) → f + n ≤ length s → f + n ≤ length t
    → ((i : ℕ) → f ≤ i → i < f + n → get_or t i 0 ≡ get_or s i 0) → slice f (f + n) t ≡ slice f (f + n) s
slice_same s t f zero p q h = let e : f + 0 ≡ f = omega arith in rw (e, slice_empty f t, slice_empty f s) refl
slice_same s t f (suc n) p q h =
    let e : suc f + n ≡ f + suc n = omega arith in
    let ih = slice_same s t (suc f) n (omega arith) (omega arith) (λ i a b. h i (omega arith) (omega arith)) in
    rw (
      slice-cons f (f + suc n) t 0 (omega arith) q,
      slice-cons f (f + suc n) s 0 (omega arith) p,
      h f
          (omega arith) (omega arith),
    )
    (ap (λ l. get_or s f 0 ∷ l) (rw e at ih))

module _ (But : ℕ → Type 0) (s t : List ℕ) (k : ℕ) (a : Alike But s t k) where
  -- a byte of a word that is not among them
  alike_byte : (j i : ℕ) → j < 128 → ¬ (But j) → k * block_bytes + 4 * j ≤ i → i < k * block_bytes + 4 * j + 4
      → get_or t i 0 ≡ get_or s i 0
  alike_byte j i l n p q =
      let c : ℕ = i - k * block_bytes in
      let e : c / 4 ≡ j = omega arith in
      let f : k * block_bytes + c ≡ i = omega arith in
      rw f at (a c (omega arith) (rw e n))

  pub alike_word : (j : ℕ) → j < 128 → ¬ (But j) → word_of t k j ≡ word_of s k j
  alike_word j l n = word_at_same_bytes t s (k * block_bytes + 4 * j) (λ i p q. alike_byte j i l n p q)

  -- a name stands in w108 to w115
  module _ (inside : Holds s k) (inside' : Holds t k) (free : (j : ℕ) → 108 ≤ j → j ≤ 115 → ¬ (But j)) where
    name_byte_lem : (i : ℕ) → name_byte ≤ i → i ≤ name_byte + longest
        → get_or t (k * block_bytes + i) 0 ≡ get_or s (k * block_bytes + i) 0
    name_byte_lem i p q = a i (omega arith) (free (i / 4) (omega arith) (omega arith))

    alike_length : name_length t k ≡ name_length s k
    alike_length = name_byte_lem name_byte (omega arith) (omega arith)

    pub alike_name : name_length s k ≤ longest → name_of t k ≡ name_of s k
    alike_name h =
        rw alike_length
        (slice_same s t (name_from k) (name_length s k) (omega arith) (omega arith)
        (λ i p q. let f : k * block_bytes + (i - k * block_bytes) ≡ i = omega arith in rw f at
        (name_byte_lem (i - k * block_bytes) (omega arith) (omega arith))))

    pub alike_good : name_good t k ≡ name_good s k
    unfolding name_good pick
    alike_good = go (dec_le (name_length s k) longest)
      where
        go : Dec (name_length s k ≤ longest)
            → pick (leb 1 (name_length t k)) (pick (leb (name_length t k) longest) (allowed (name_of t k)) false) false
            ≡ pick (leb 1 (name_length s k)) (pick (leb (name_length s k) longest) (allowed (name_of s k)) false) false
        go (yes h) = rw (alike_name h, alike_length) refl
        go (no h) =
            let l : longest < name_length s k = omega arith in
            rw (alike_length, lt-leb (name_length s k) longest l) refl

-- a good name is short
pub good_short : (s : List ℕ) (k : ℕ) → name_good s k ≡ true → name_length s k ≤ longest
unfolding name_good pick
good_short s k e = go (leb 1 (name_length s k)) (leb (name_length s k) longest) refl e
  where
    go : (x y : Bool) → leb (name_length s k) longest ≡ y
        → pick x (pick y (allowed (name_of s k)) false) false ≡ true → name_length s k ≤ longest
    go true true p q = leb-true (name_length s k) longest p
    go true false p q = impossible cc
    go false true p q = impossible cc
    go false false p q = impossible cc

pub same_sum : (s t : List ℕ) (k : ℕ) → SameBlock s t k → sum_of t k ≡ sum_of s k
same_sum s t k a =
    sum_at_same t (k * block_bytes) s
    (λ i p q. let f : k * block_bytes + (i - k * block_bytes) ≡ i = omega arith in rw f at
    (a (i - k * block_bytes) (omega arith) (λ z. z)))

pub same_back : (But : ℕ → Type 0) (s t : List ℕ) (k : ℕ) → Alike But s t k → Alike But t s k
same_back But s t k a i l n = sym (a i l n)

-- What a block refers to, where two images are alike in it. Assumes nothing.
use Prim.Native.Nat.{ℕ, zero, suc, ◌+◌, ◌-◌, ◌<◌, ◌≤◌}
use mathlib.Core.Path.{◌≡◌, refl, ap, ap₂}
use mathlib.Core.List.{List, ◌∷◌, ◌++◌}
use native.Mathlib.Omega.{arith}
use Rattle.volume.specs.Blocks.{slots, word_of, slot_word, key_word}
use Rattle.volume.specs.Files.{keys_down}
use Rattle.volume.specs.References.{Kind, link, slot_refs, key_refs, refers_to}
use Rattle.writes.specs.Alike.{SameBlock}
use Rattle.writes.proofs.Alike.{alike_word}

module _ (s t : List ℕ) (k : ℕ) where
  pub slots_alike : (i n : ℕ) → ((j : ℕ) → i ≤ j → j < i + n → slot_word t k j ≡ slot_word s k j)
      → slot_refs t k i n ≡ slot_refs s k i n
  unfolding slot_refs
  slots_alike i zero h = refl
  slots_alike i (suc n) h =
      ap₂ (λ x y. x ++ y) (ap (link Kind.entry) (h i (omega arith) (omega arith)))
      (slots_alike (suc i) n (λ j p q. h j (omega arith) (omega arith)))

  pub keys_alike : (i n : ℕ) → ((j : ℕ) → i ≤ j → j < i + n → key_word t k j ≡ key_word s k j)
      → keys_down t k i n ≡ keys_down s k i n
  unfolding keys_down
  keys_alike i zero h = refl
  keys_alike i (suc n) h =
      ap₂ (λ x y. x ∷ y) (h i (omega arith) (omega arith))
      (keys_alike (suc i) n (λ j p q. h j (omega arith) (omega arith)))

  module _ (a : SameBlock s t k) where
    pub same_word : (j : ℕ) → j < 128 → word_of t k j ≡ word_of s k j
    same_word j l = alike_word (λ _. ⊥) s t k a j l (λ z. z)

    pub listed_same : key_refs t k ≡ key_refs s k
    listed_same =
        rw (
          same_word 2 (omega arith),
          same_word 126 (omega arith),
          keys_alike 0 (word_of s k 2)
              (λ j p q. same_word (77 - j) (omega arith)),
        ) refl

    pub slots_same : slot_refs t k 0 slots ≡ slot_refs s k 0 slots
    slots_same = slots_alike 0 slots (λ j p q. same_word (6 + j) (omega arith))

    -- the same block refers to the same, asked for as any kind
    pub refers_same : (x : Kind) → refers_to t x k ≡ refers_to s x k
    unfolding refers_to
    refers_same Kind.root = rw (same_word 79 (omega arith), slots_same) refl
    refers_same Kind.bitmap = refl
    refers_same Kind.entry = rw (same_word 127 (omega arith), same_word 124 (omega arith), slots_same, listed_same) refl
    refers_same Kind.list = listed_same
    refers_same Kind.datum = refl

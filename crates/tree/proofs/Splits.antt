-- What a block refers to, with one of its pointers taken apart from the others. Assumes nothing.
use Prim.Native.Nat.{ℕ, zero, suc, ◌+◌, ◌-◌, ◌<◌}
use mathlib.Core.Path.{◌≡◌, refl, sym, ap, ap₂, ◌∙◌}
use mathlib.Core.Logic.{◌≢◌}
use mathlib.Core.List.{List, [], ◌∷◌, ◌++◌, append_assoc}
use native.Mathlib.Omega.{arith}
use Rattle.volume.specs.Blocks.{slots, slot_word}
use Rattle.volume.specs.References.{Kind, to, link, slot_refs}
use Rattle.tree.proofs.Refers.{slots_alike}

pub link_some : (a : Kind) (k : ℕ) → k ≢ 0 → link a k ≡ to a k ∷ []
link_some a zero h = absurd (h refl)
link_some a (suc k) h = refl

module _ (s : List ℕ) (x : ℕ) where
  slots_split : (i m n : ℕ) → slot_refs s x i (m + n) ≡ slot_refs s x i m ++ slot_refs s x (i + m) n
  unfolding slot_refs
  slots_split i zero n = let e : 0 + n ≡ n = omega arith in let f : i + 0 ≡ i = omega arith in rw (e, f) refl
  slots_split i (suc m) n =
      let e : suc m + n ≡ suc (m + n) = omega arith in
      let f : suc i + m ≡ i + suc m = omega arith in
      rw e (ap (λ l. link Kind.entry (slot_word s x i) ++ l) (rw f at (slots_split (suc i) m n))
      ∙ sym (append_assoc (link Kind.entry (slot_word s x i)) (slot_refs s x (suc i) m) (slot_refs s x (i + suc m) n)))

  -- slot i, what comes before it and what comes behind it
  pub slots_around : (i : ℕ) → i < slots
      → slot_refs s x 0 slots ≡ slot_refs s x 0 i
      ++ (link Kind.entry (slot_word s x i) ++ slot_refs s x (suc i) (71 - i))
  unfolding slot_refs
  slots_around i l =
      let e : i + suc (71 - i) ≡ slots = omega arith in
      let f : 0 + i ≡ i = omega arith in
      rw (e, f) at (slots_split 0 i (suc (71 - i)))

-- in another image only slot i differs
pub slots_repointed : (s t : List ℕ) (x i : ℕ) → i < slots
    → ((j : ℕ) → j < slots → j ≢ i → slot_word t x j ≡ slot_word s x j)
    → slot_refs t x 0 slots ≡ slot_refs s x 0 i ++ (link Kind.entry (slot_word t x i) ++ slot_refs s x (suc i) (71 - i))
slots_repointed s t x i l h =
    slots_around t x i l
    ∙ ap₂ (λ a b. a ++ (link Kind.entry (slot_word t x i) ++ b))
    (slots_alike s t x 0 i (λ j p q. h j (omega arith) (omega arith)))
    (slots_alike s t x (suc i) (71 - i) (λ j p q. h j (omega arith) (omega arith)))

-- a list in three parts, with more behind it
pub three_more : {A : Type 0} (xs ys zs more : List A) → (xs ++ (ys ++ zs)) ++ more ≡ xs ++ (ys ++ (zs ++ more))
three_more xs ys zs more = append_assoc xs (ys ++ zs) more ∙ ap (λ l. xs ++ l) (append_assoc ys zs more)

-- The bitmap against the claims: the bits of a range are right, or there is a lowest that is wrong (`bits_say`); the
-- same said of what is reached (`bits_right`, `bits_wrong`); and how many are free (`count_free`). Assumes nothing.
use Rattle.std.specs.Prelude.{Result, Ok, Err}
use Prim.Native.Nat.{ℕ, zero, suc, ◌+◌, ◌≤◌, ◌<◌}
use mathlib.Core.Path.{◌≡◌, refl, sym, ap, ap₂, ◌∙◌, subst}
use mathlib.Core.Logic.{◌⊎◌, ◌↔◌, inl, inr}
use mathlib.Core.Bool.{Bool, true, false}
use mathlib.Core.List.{List, [], ◌∷◌}
use native.Mathlib.Omega.{arith}
use native.Mathlib.Decide.{dec_lt}
use native.Mathlib.Nat.{zero-add, add-zero}
use lib.ListN.{length, get_or}
use borrow.Author.Tests.{eqb-true, not-false}
use Rattle.answers.specs.declared.Refusal.{Refusal}
use Rattle.answers.specs.Numbers as fault
use Rattle.answers.specs.Refusals.{refusal}
use Rattle.answers.specs.Tests.{pick}
use Rattle.answers.proofs.Clashes.{impossible}
use Rattle.reach.specs.Walk.{free}
use Rattle.reach.proofs.Claims.{byte_any}
use Rattle.volume.specs.declared.disk.Disk.{Disk}
use Rattle.volume.specs.Disks.{first_key, bit_span}
use Rattle.volume.specs.Bitmap.{is_free}
use Rattle.walk.specs.declared.Counts.{Counts}
use Rattle.volume.specs.Law.{bitmap_key_of, Used, BitRight}
use Rattle.walk.specs.Reports.{Walked}
use Rattle.audit.specs.Bits.{bit_wrong, bits_from, bits_of}
use Rattle.audit.specs.Verdicts.{free_from, FirstWrong}

-- ---- of any claims

step_count : (b : Bool) (f n : ℕ) → pick b (f + 1) f + n ≡ f + pick b (suc n) n
unfolding pick
step_count true f n = omega arith
step_count false f n = refl

module _ (s : List ℕ) (bitmap_key : ℕ) (cl : List ℕ) where
  abbrev pub wrong_at : ℕ → Bool
  wrong_at k = bit_wrong (is_free s bitmap_key k) (get_or cl k 0)

  -- the bits of the n blocks from block k on
  abbrev pub AllRight : ℕ → ℕ → Type 0
  AllRight k n = (j : ℕ) → k ≤ j → j < k + n → wrong_at j ≡ false

  pub record Lowest (k n j : ℕ) : Type 0 where
    pub low : k ≤ j
    pub high : j < k + n
    pub wrong : wrong_at j ≡ true
    pub before : (i : ℕ) → k ≤ i → i < j → wrong_at i ≡ false

  abbrev Say : ℕ → ℕ → ℕ → Result ℕ Refusal → Type 0
  Say k f n (Ok m) = AllRight k n × (m ≡ f + free_from s bitmap_key k n)
  Say k f n (Err x) = (x.number ≡ fault.wrong_bit) × Lowest k n x.place

  bits_say : (k f n : ℕ) → Say k f n (bits_from s bitmap_key cl k f n)
  unfolding bits_from free_from pick
  bits_say k f zero = ((λ j l h. absurd (omega arith)), omega arith)
  bits_say k f (suc n) =
      go (wrong_at k) refl (bits_from s bitmap_key cl (suc k) (pick (is_free s bitmap_key k) (f + 1) f) n)
      (bits_say (suc k) (pick (is_free s bitmap_key k) (f + 1) f) n)
    where
      -- right here, and right up to i
      upto : (i : ℕ) → wrong_at k ≡ false → ((j : ℕ) → suc k ≤ j → j < i → wrong_at j ≡ false) → (j : ℕ) → k ≤ j → j < i
          → wrong_at j ≡ false
      upto i e h j l u = at (dec_lt k j)
        where
          at : Dec (k < j) → wrong_at j ≡ false
          at (yes q) = h j q u
          at (no q) = let z : j ≡ k = omega arith in rw z e

      go : (b : Bool) → wrong_at k ≡ b → (r : Result ℕ Refusal)
          → Say (suc k) (pick (is_free s bitmap_key k) (f + 1) f) n r
          → Say k f (suc n) (pick b (Err (refusal fault.wrong_bit k)) r)
      go true e r h = (
        refl,
        record { low = omega arith; high = omega arith; wrong = e; before = λ i l u. absurd (omega arith) },
      )
      go false e (Ok m) h = (
        (λ j l u. upto (suc k + n) e h.0 j l (omega arith)),
        h.1
            ∙ step_count (is_free s bitmap_key k) f (free_from s bitmap_key (suc k) n),
      )
      go false e (Err x) h =
          let a = h.1.low in
          let b = h.1.high in (
            h.0,
            record { low = omega arith; high = omega arith; wrong = h.1.wrong; before = upto x.place e h.1.before },
          )

  clash : {A : Type 0} (j : ℕ) → wrong_at j ≡ true → wrong_at j ≡ false → A
  clash j a b = impossible cc

  lowest_one : (k n i j : ℕ) → Lowest k n i → Lowest k n j → i ≡ j
  lowest_one k n i j a b = go (dec_lt i j) (dec_lt j i)
    where
      go : Dec (i < j) → Dec (j < i) → i ≡ j
      go (yes l) q = clash i a.wrong (b.before i a.low l)
      go (no p) (yes l) = clash j b.wrong (a.before j b.low l)
      go (no p) (no q) = omega arith

  module _ (k f n : ℕ) where
    pub right_exactly : (m : ℕ)
        → (bits_from s bitmap_key cl k f n ≡ Ok m) ↔ (AllRight k n × (m ≡ f + free_from s bitmap_key k n))
    right_exactly m =
        ((λ e. subst (Say k f n) e (bits_say k f n)), λ h. go h (bits_from s bitmap_key cl k f n) (bits_say k f n))
      where
        go : AllRight k n × (m ≡ f + free_from s bitmap_key k n) → (r : Result ℕ Refusal) → Say k f n r → r ≡ Ok m
        go h (Ok i) e = ap Ok (e.1 ∙ sym h.1)
        go h (Err x) e = clash x.place e.1.wrong (h.0 x.place e.1.low e.1.high)

    pub wrong_exactly : (j : ℕ) → (bits_from s bitmap_key cl k f n ≡ Err (refusal fault.wrong_bit j)) ↔ Lowest k n j
    wrong_exactly j =
        ((λ e. (subst (Say k f n) e (bits_say k f n)).1), λ h. go h (bits_from s bitmap_key cl k f n) (bits_say k f n))
      where
        go : Lowest k n j → (r : Result ℕ Refusal) → Say k f n r → r ≡ Err (refusal fault.wrong_bit j)
        go h (Ok i) e = clash j h.wrong (e.0 j h.low h.high)
        go h (Err x) e = ap₂ (λ (v i : ℕ). Err (refusal v i)) e.0 (lowest_one k n x.place j e.1 h)

    pub wrong_number : (x : Refusal) → bits_from s bitmap_key cl k f n ≡ Err x → x ≡ refusal fault.wrong_bit x.place
    wrong_number x e = ap (λ (v : ℕ). refusal v x.place) (subst (Say k f n) e (bits_say k f n)).0

-- ---- of a walk's claims

-- two cases that exclude each other, each known in two ways
either_way : {A B P Q : Type 0} → (A × P) ⊎ (B × Q) → (A → B → ⊥) → (P → Q → ⊥) → (A ↔ P) × (B ↔ Q)
either_way (inl h) x y = (((λ a. h.1), λ p. h.0), ((λ b. absurd (x h.0 b)), λ q. absurd (y h.1 q)))
either_way (inr h) x y = (((λ a. absurd (x a h.0)), λ p. absurd (y p h.1)), ((λ b. h.1), λ q. h.0))

-- a block's bit, and whether it is reached
module _ (u : Bool) (U : Type 0) where
  abbrev Fits : Type 0
  Fits = (u ≡ false) ↔ U

judged : (u : Bool) (b : ℕ) (U : Type 0) → ((b ≡ 1) × U) ⊎ ((b ≡ 0) × (¬ U))
    → ((bit_wrong u b ≡ false) × Fits u U) ⊎ ((bit_wrong u b ≡ true) × (Fits u U → ⊥))
unfolding bit_wrong pick
judged true b U (inl h) = inr (rw h.0, λ f. let e = f.1 h.1 in impossible cc)
judged true b U (inr h) = inl (rw h.0, ((λ e. impossible cc), λ x. absurd (h.1 x)))
judged false b U (inl h) = inl (rw h.0, ((λ e. h.1), λ x. refl))
judged false b U (inr h) = inr (rw h.0, λ f. h.1 (f.0 refl))

module _ (d : Disk) (s c : List ℕ) (n : Counts) (w : Walked d s c n) where
  -- the claim byte of a block, as the bitmap's test reads it
  pub claim_byte : (k : ℕ) → k < d.blocks → ((get_or c k 0 ≡ 1) × Used d s k) ⊎ ((get_or c k 0 ≡ 0) × (¬ Used d s k))
  claim_byte k l =
      let e = w.size in
      subst (λ (b : ℕ). ((b ≡ 1) × Used d s k) ⊎ ((b ≡ 0) × (¬ Used d s k))) (byte_any c k 1 0 (omega arith))
      (w.byte k l)

  abbrev bad : ℕ → Bool
  bad k = wrong_at s (bitmap_key_of d s) c k

  bit : (k : ℕ) → k < d.blocks → ((bad k ≡ false) ↔ BitRight d s k) × ((bad k ≡ true) ↔ (BitRight d s k → ⊥))
  bit k l =
      either_way (judged (is_free s (bitmap_key_of d s) k) (get_or c k 0) (Used d s k) (claim_byte k l))
      (λ a b. clash s (bitmap_key_of d s) c k b a) (λ p q. q p)

  pub bits_right : (f : ℕ)
      → (bits_of d s (bitmap_key_of d s) c ≡ Ok f)
      ↔ (((k : ℕ) → first_key ≤ k → k < d.blocks → BitRight d s k)
      × (f ≡ free_from s (bitmap_key_of d s) first_key (bit_span d)))
  bits_right f = (
    (λ e. let r = (right_exactly s (bitmap_key_of d s) c first_key 0 (bit_span d) f).0
        e in ((λ k l u. (bit k u).0.0 (r.0 k l (omega arith))), r.1 ∙ zero-add _)),
    (λ h. (right_exactly s (bitmap_key_of d s) c first_key 0 (bit_span d) f).1
        ((λ k l u. (bit k (omega arith)).0.1 (h.0 k l (omega arith))), h.1 ∙ sym (zero-add _))),
  )

  pub bits_wrong : (k : ℕ) → (bits_of d s (bitmap_key_of d s) c ≡ Err (refusal fault.wrong_bit k)) ↔ FirstWrong d s k
  bits_wrong k = (
    (λ e. there ((wrong_exactly s (bitmap_key_of d s) c first_key 0 (bit_span d) k).0 e)),
    (λ h. (wrong_exactly s (bitmap_key_of d s) c first_key 0 (bit_span d) k).1 (back h)),
  )
    where
      there : Lowest s (bitmap_key_of d s) c first_key (bit_span d) k → FirstWrong d s k
      there h =
          let a = h.low in
          let l : k < d.blocks = omega (arith, h.high) in
          record {
            low = a;
            high = l;
            wrong = (bit k l).1.0 h.wrong;
            before = λ j q u. (bit j (omega arith)).0.0 (h.before j q u);
          }

      back : FirstWrong d s k → Lowest s (bitmap_key_of d s) c first_key (bit_span d) k
      back h =
          let a = h.low in
          let l = h.high in
          record {
            low = a;
            high = omega arith;
            wrong = (bit k l).1.1 h.wrong;
            before = λ j q u. (bit j (omega arith)).0.1 (h.before j q u);
          }

-- ---- as many free blocks as claim bytes that are 0

module _ (s : List ℕ) (bitmap_key : ℕ) where
  count_byte : (b : Bool) (x f : ℕ) (c : List ℕ) → bit_wrong b x ≡ false → free c ≡ f → free (x ∷ c) ≡ pick b (suc f) f
  unfolding bit_wrong pick free
  count_byte true zero f c e h = ap suc h
  count_byte true (suc x) f c e h = absurd (omega (arith, eqb-true (suc x) 0 (not-false _ e)))
  count_byte false zero f c e h = impossible cc
  count_byte false (suc x) f c e h = h

  -- of the bytes of the blocks from block k on
  count_bytes : (c : List ℕ) (k : ℕ)
      → ((i : ℕ) → i < length c → bit_wrong (is_free s bitmap_key (k + i)) (get_or c i 0) ≡ false)
      → free c ≡ free_from s bitmap_key k (length c)
  unfolding free_from free
  count_bytes [] k h = refl
  count_bytes (x ∷ c) k h =
      count_byte (is_free s bitmap_key k) x _ c (rw (add-zero k) at (h 0 (omega arith)))
      (count_bytes c (suc k) (λ i l. let e : k + suc i ≡ suc k + i = omega arith in rw e at (h (suc i) (omega arith))))

  -- the boot blocks are never claimed
  pub count_free : (c : List ℕ) (n : ℕ) → length c ≡ first_key + n → get_or c 0 0 ≡ 0 → get_or c 1 0 ≡ 0
      → AllRight s bitmap_key c first_key n → free c ≡ first_key + free_from s bitmap_key first_key n
  unfolding free
  count_free [] n l a b h = absurd (omega arith)
  count_free (x ∷ []) n l a b h = absurd (omega arith)
  count_free (suc x ∷ y ∷ c) n l a b h = absurd (omega arith)
  count_free (zero ∷ suc y ∷ c) n l a b h = absurd (omega arith)
  count_free (zero ∷ zero ∷ c) n l a b h =
      let e : length c ≡ n = omega arith in
      let f =
      count_bytes c first_key (λ i u. let j : first_key + i ≡ suc (suc i) = omega arith in rw j
      (h (suc (suc i)) (omega arith) (omega arith))) in
      rw (← e) (omega (arith, f))

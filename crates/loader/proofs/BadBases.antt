-- 40 is given if and only if a list of bases has another length, or at its first bad entry; and why an entry is bad.
-- Assumes nothing.
use Rattle.std.specs.Prelude.{Ok, Err}
use Rattle.std.proofs.Common.{◌≡◌, ℕ, zero, suc, ◌+◌, ◌*◌, ◌%◌, ◌^◌, ◌<◌, ◌≤◌, Bool, true, false, eqb, ltb, ◌≢◌, ◌⊎◌}
use Rattle.std.proofs.Common.{◌↔◌, List, length, sym, refl, ap, ◌∙◌, subst, inl, inr, arith, ltb-false, ltb-true}
use Rattle.std.proofs.Common.{lt-ltb, eq-eqb, ne_eqb, eqb-true}
use native.Mathlib.Decide.{dec_lt}
use lib.ListN.{get_or-eq_default}
use borrow.Author.Tests.{eqb-false}
use Rattle.answers.specs.Numbers as fault
use Rattle.answers.specs.Tests.{pick}
use Rattle.answers.specs.Refusals.{refusal}
use Rattle.answers.specs.declared.Refusal.{Refusal}
use Rattle.answers.proofs.Tests.{pick_passed}
use Rattle.answers.proofs.Clashes.{impossible}
use Rattle.program.specs.Header.{total_of, size_of}
use Rattle.program.proofs.Answers.{not_failed}
use Rattle.loader.specs.Memory.{amount_of}
use Rattle.loader.specs.Bases.{larger, smaller, top_of, overlap, shares, entry_bad, bases_from, bases_fault}
use Rattle.loader.specs.Verdicts.{Shared, GoodEntry, BadEntry}
use Rattle.loader.proofs.Marking.{no_bool}
use Rattle.loader.proofs.Picks.{or_left, or_right, pick_else, pick_failed, pick_fails, pick_goes, pick_or}

-- ---- which entry

-- as it is tested: the list has another length; else entry i is bad, and none before it
abbrev pub BasesWhy : List ℕ → List ℕ → ℕ → Refusal → Type 0
BasesWhy file bases from f =
    ((f ≡ refusal fault.bad_base from) × (length bases ≢ total_of file))
    ⊎ ((length bases ≡ total_of file)
    × ((i : ℕ) × (i < total_of file) × (f ≡ refusal fault.bad_base (from + i)) × (entry_bad file bases i ≡ true)
    × ((j : ℕ) → j < i → entry_bad file bases j ≡ false)))

module _ (file bases : List ℕ) (from : ℕ) where
  -- the first bad one of n entries from i on is k
  abbrev Found : ℕ → ℕ → Refusal → Type 0
  Found i n f =
      (k : ℕ) × (i ≤ k) × (k < i + n) × (f ≡ refusal fault.bad_base (from + k)) × (entry_bad file bases k ≡ true)
      × ((j : ℕ) → i ≤ j → j < k → entry_bad file bases j ≡ false)

  from_why : (i n : ℕ) (f : Refusal) → bases_from file bases from i n ≡ Err f → Found i n f
  unfolding bases_from
  from_why i zero f h = not_failed h
  from_why i (suc n) f h =
      go (pick_failed (entry_bad file bases i) (refusal fault.bad_base (from + i))
      (bases_from file bases from (i + 1) n)
      f h) (from_why (i + 1) n f)
    where
      go : ((entry_bad file bases i ≡ true) × (f ≡ refusal fault.bad_base (from + i)))
          ⊎ ((entry_bad file bases i ≡ false) × (bases_from file bases from (i + 1) n ≡ Err f))
          → (bases_from file bases from (i + 1) n ≡ Err f → Found (i + 1) n f) → Found i (suc n) f
      go (inl x) g = (i, omega arith, omega arith, x.1, x.0, λ j a b. absurd (omega arith))
      go (inr x) g =
          let r = g x.1 in (
            r.0,
            omega (arith, r.1),
            omega (arith, r.2),
            r.3,
            r.4,
            λ j a b. below j a (dec_lt i j) (λ l. r.5 j (omega arith) b),
          )
        where
          below : (j : ℕ) → i ≤ j → Dec (i < j) → (i < j → entry_bad file bases j ≡ false)
              → entry_bad file bases j ≡ false
          below j a (yes l) k = k l
          below j a (no l) k = let e : i ≡ j = omega arith in subst (λ (z : ℕ). entry_bad file bases z ≡ false) e x.0

  from_then : (i n k : ℕ) → i ≤ k → k < i + n → entry_bad file bases k ≡ true
      → ((j : ℕ) → i ≤ j → j < k → entry_bad file bases j ≡ false)
      → bases_from file bases from i n ≡ Err (refusal fault.bad_base (from + k))
  unfolding bases_from
  from_then i zero k a b t g = absurd (omega arith)
  from_then i (suc n) k a b t g =
      go (dec_lt i k) (λ l. from_then (i + 1) n k (omega arith) (omega arith) t (λ j x y. g j (omega arith) y))
    where
      go : Dec (i < k) → (i < k → bases_from file bases from (i + 1) n ≡ Err (refusal fault.bad_base (from + k)))
          → pick (entry_bad file bases i) (Err (refusal fault.bad_base (from + i)))
          (bases_from file bases from (i + 1) n) ≡ Err (refusal fault.bad_base (from + k))
      go (yes l) r = pick_goes _ _ _ _ (g i (omega arith) l) (r l)
      go (no l) r =
          let e : k ≡ i = omega arith in
          pick_fails _ _ _ (subst (λ (z : ℕ). entry_bad file bases z ≡ true) e t)
          ∙ ap (λ (z : ℕ). Err (refusal fault.bad_base (from + z))) (sym e)

module _ (file bases : List ℕ) (from : ℕ) (f : Refusal) where
  bases_there : bases_fault file bases from ≡ Err f → BasesWhy file bases from f
  unfolding bases_fault
  bases_there h =
      go (pick_else (eqb (length bases) (total_of file)) (bases_from file bases from 0 (total_of file))
      (refusal fault.bad_base from) f h)
    where
      go : ((eqb (length bases) (total_of file) ≡ true) × (bases_from file bases from 0 (total_of file) ≡ Err f))
          ⊎ ((eqb (length bases) (total_of file) ≡ false) × (f ≡ refusal fault.bad_base from))
          → BasesWhy file bases from f
      go (inl x) =
          let r = from_why file bases from 0 (total_of file) f x.1 in
          inr (eqb-true _ _ x.0, (r.0, omega (arith, r.2), r.3, r.4, λ j b. r.5 j (omega arith) b))
      go (inr x) = inl (x.1, eqb-false _ _ x.0)

  bases_back : BasesWhy file bases from f → bases_fault file bases from ≡ Err f
  unfolding bases_fault pick
  bases_back (inl x) = rw (ne_eqb _ _ x.1) (ap Err (sym x.0))
  bases_back (inr x) =
      let r = x.1 in
      rw (eq-eqb _ _ x.0) (from_then file bases from 0 (total_of file) r.0 (omega arith) (omega (arith, r.1))
      r.3 (λ j a b. r.4 j b) ∙ ap Err (sym r.2))

  pub bases_why : (bases_fault file bases from ≡ Err f) ↔ BasesWhy file bases from f
  bases_why = (bases_there, bases_back)

-- ---- why it is bad

larger_most : (a b : ℕ) → (a ≤ larger a b) × (b ≤ larger a b)
unfolding pick
larger_most a b = go (ltb a b) refl
  where
    go : (t : Bool) → ltb a b ≡ t → (a ≤ pick t b a) × (b ≤ pick t b a)
    go true e = let l = ltb-true a b e in (omega arith, omega arith)
    go false e = let l = ltb-false a b e in (omega arith, omega arith)

smaller_least : (a b : ℕ) → (smaller a b ≤ a) × (smaller a b ≤ b)
unfolding pick
smaller_least a b = go (ltb a b) refl
  where
    go : (t : Bool) → ltb a b ≡ t → (pick t a b ≤ a) × (pick t a b ≤ b)
    go true e = let l = ltb-true a b e in (omega arith, omega arith)
    go false e = let l = ltb-false a b e in (omega arith, omega arith)

larger_below : (a b c : ℕ) → a ≤ c → b ≤ c → larger a b ≤ c
unfolding pick
larger_below a b c h k = go (ltb a b)
  where
    go : (t : Bool) → pick t b a ≤ c
    go true = k
    go false = h

smaller_above : (a b c : ℕ) → c < a → c < b → c < smaller a b
unfolding pick
smaller_above a b c h k = go (ltb a b)
  where
    go : (t : Bool) → c < pick t a b
    go true = h
    go false = k

module _ (file bases : List ℕ) where
  overlap_there : (i j : ℕ) → overlap file bases i j ≡ true → Shared (size_of file) bases i j
  overlap_there i j h =
      let l =
      ltb-true (larger (amount_of bases i) (amount_of bases j)) (smaller (top_of file bases i) (top_of file bases j))
      h in
      let x = larger_most (amount_of bases i) (amount_of bases j) in
      let y = smaller_least (top_of file bases i) (top_of file bases j) in
      (larger (amount_of bases i) (amount_of bases j), (x.0, omega (arith, l, y.0)), (x.1, omega (arith, l, y.1)))

  overlap_back : (i j : ℕ) → Shared (size_of file) bases i j → overlap file bases i j ≡ true
  overlap_back i j s =
      let x = larger_below (amount_of bases i) (amount_of bases j) s.0 s.1.0 s.2.0 in
      let y = smaller_above (top_of file bases i) (top_of file bases j) s.0 s.1.1 s.2.1 in
      lt-ltb (larger (amount_of bases i) (amount_of bases j)) (smaller (top_of file bases i) (top_of file bases j))
      (omega (arith, x, y))

  shares_there : (i n : ℕ) → shares file bases i n ≡ true → (j : ℕ) × (j < n) × Shared (size_of file) bases i j
  unfolding shares
  shares_there i zero h = no_bool h
  shares_there i (suc n) h = go (pick_or (overlap file bases i n) (shares file bases i n) h) (shares_there i n)
    where
      go : (overlap file bases i n ≡ true) ⊎ (shares file bases i n ≡ true)
          → (shares file bases i n ≡ true → (j : ℕ) × (j < n) × Shared (size_of file) bases i j)
          → (j : ℕ) × (j < suc n) × Shared (size_of file) bases i j
      go (inl x) g = (n, omega arith, overlap_there i n x)
      go (inr x) g = let r = g x in (r.0, omega (arith, r.1), r.2)

  shares_back : (i n j : ℕ) → j < n → Shared (size_of file) bases i j → shares file bases i n ≡ true
  unfolding shares
  shares_back i zero j l s = absurd (omega arith)
  shares_back i (suc n) j l s = go (dec_lt j n) (λ k. shares_back i n j k s)
    where
      go : Dec (j < n) → (j < n → shares file bases i n ≡ true)
          → pick (overlap file bases i n) true (shares file bases i n) ≡ true
      go (yes k) g = or_right _ _ (g k)
      go (no k) g =
          let e : j ≡ n = omega arith in
          or_left _ _ (subst (λ (z : ℕ). overlap file bases i z ≡ true) e (overlap_back i j s))

  entry_there : (i : ℕ) → entry_bad file bases i ≡ true → BadEntry (size_of file) bases i
  unfolding entry_bad pick
  entry_there i h = go (eqb (amount_of bases i % 4) 0) refl h
    where
      two : (ltb (2 ^ 32) (top_of file bases i) ≡ true) ⊎ (shares file bases i i ≡ true)
          → BadEntry (size_of file) bases i
      two (inl x) = inr (inl (ltb-true _ _ x))
      two (inr x) = inr (inr (shares_there i i x))

      go : (b : Bool) → eqb (amount_of bases i % 4) 0 ≡ b
          → pick b (pick (ltb (2 ^ 32) (top_of file bases i)) true (shares file bases i i)) true ≡ true
          → BadEntry (size_of file) bases i
      go true e q = two (pick_or (ltb (2 ^ 32) (top_of file bases i)) (shares file bases i i) q)
      go false e q = inl (eqb-false _ _ e)

  entry_back : (i : ℕ) → BadEntry (size_of file) bases i → entry_bad file bases i ≡ true
  unfolding entry_bad pick
  entry_back i (inl x) = rw (ne_eqb _ _ x)
  entry_back i (inr x) = go (eqb (amount_of bases i % 4) 0) (two x)
    where
      two : (2 ^ 32 < top_of file bases i) ⊎ ((j : ℕ) × (j < i) × Shared (size_of file) bases i j)
          → pick (ltb (2 ^ 32) (top_of file bases i)) true (shares file bases i i) ≡ true
      two (inl y) = or_left (ltb (2 ^ 32) (top_of file bases i)) (shares file bases i i) (lt-ltb _ _ y)
      two (inr y) =
          or_right (ltb (2 ^ 32) (top_of file bases i)) (shares file bases i i) (shares_back i i y.0 y.1 y.2)

      go : (b : Bool) → pick (ltb (2 ^ 32) (top_of file bases i)) true (shares file bases i i) ≡ true
          → pick b (pick (ltb (2 ^ 32) (top_of file bases i)) true (shares file bases i i)) true ≡ true
      go true q = q
      go false q = refl

  pub entry_why : (i : ℕ) → (entry_bad file bases i ≡ true) ↔ BadEntry (size_of file) bases i
  entry_why i = (entry_there i, entry_back i)

  -- an entry that is not bad is good
  passes_good : (i : ℕ) → entry_bad file bases i ≡ false → GoodEntry (size_of file) bases i
  passes_good i h =
      record {
        multiple = multiple (eqb (amount_of bases i % 4) 0) refl;
        below = low (dec_lt (2 ^ 32) (amount_of bases i + 4 * size_of file i));
        alone = λ j l s. not_bad (inr (inr (j, l, s)));
      }
    where
      not_bad : BadEntry (size_of file) bases i → ⊥
      not_bad w = no_bool (sym h ∙ entry_back i w)

      multiple : (b : Bool) → eqb (amount_of bases i % 4) 0 ≡ b → amount_of bases i % 4 ≡ 0
      multiple true e = eqb-true _ _ e
      multiple false e = absurd (not_bad (inl (eqb-false _ _ e)))

      low : Dec (2 ^ 32 < amount_of bases i + 4 * size_of file i) → amount_of bases i + 4 * size_of file i ≤ 2 ^ 32
      low (yes a) = absurd (not_bad (inr (inl a)))
      low (no a) = omega arith

  good_passes : (i : ℕ) → GoodEntry (size_of file) bases i → entry_bad file bases i ≡ false
  good_passes i g = go (entry_bad file bases i) (entry_there i)
    where
      none : BadEntry (size_of file) bases i → ⊥
      none (inl x) = x g.multiple
      none (inr (inl x)) = omega (arith, x, g.below)
      none (inr (inr x)) = g.alone x.0 x.1 x.2

      go : (b : Bool) → (b ≡ true → BadEntry (size_of file) bases i) → b ≡ false
      go true f = absurd (none (f refl))
      go false f = refl

  pub entry_good : (i : ℕ) → (entry_bad file bases i ≡ false) ↔ GoodEntry (size_of file) bases i
  entry_good i = (passes_good i, good_passes i)

-- ---- a list passes if and only if its count is right and no entry is bad, wherever it counts from

module _ (file bases : List ℕ) (from : ℕ) where
  from_passed : (i n : ℕ) → bases_from file bases from i n ≡ Ok tt → (k : ℕ) → i ≤ k → k < i + n
      → entry_bad file bases k ≡ false
  unfolding bases_from
  from_passed i zero h k a b = absurd (omega arith)
  from_passed i (suc n) h k a b =
      let p =
      pick_passed (entry_bad file bases i) (refusal fault.bad_base (from + i)) (bases_from file bases from (i + 1) n)
      h in
      go (dec_lt i k) p.0 (λ l. from_passed (i + 1) n p.1 k (omega arith) (omega arith))
    where
      go : Dec (i < k) → entry_bad file bases i ≡ false → (i < k → entry_bad file bases k ≡ false)
          → entry_bad file bases k ≡ false
      go (yes l) e g = g l
      go (no l) e g = let q : i ≡ k = omega arith in subst (λ (z : ℕ). entry_bad file bases z ≡ false) q e

  from_good : (i n : ℕ) → ((k : ℕ) → i ≤ k → k < i + n → entry_bad file bases k ≡ false)
      → bases_from file bases from i n ≡ Ok tt
  unfolding bases_from
  from_good i zero g = refl
  from_good i (suc n) g =
      pick_goes _ _ _ _ (g i (omega arith) (omega arith))
      (from_good (i + 1) n (λ k a b. g k (omega arith) (omega arith)))

  pub bases_exactly : (bases_fault file bases from ≡ Ok tt)
      ↔ ((length bases ≡ total_of file) × ((k : ℕ) → k < total_of file → entry_bad file bases k ≡ false))
  unfolding bases_fault pick
  bases_exactly = (
    λ h. go (eqb (length bases) (total_of file)) refl h,
    λ h. rw (eq-eqb _ _ h.0) (from_good 0 (total_of file) (λ k a b. h.1 k (omega arith))),
  )
    where
      go : (b : Bool) → eqb (length bases) (total_of file) ≡ b
          → pick b (bases_from file bases from 0 (total_of file)) (Err (refusal fault.bad_base from)) ≡ Ok tt
          → (length bases ≡ total_of file) × ((k : ℕ) → k < total_of file → entry_bad file bases k ≡ false)
      go true e q = (eqb-true _ _ e, λ k l. from_passed 0 (total_of file) q k (omega arith) (omega arith))
      go false e q = impossible cc

  -- every entry of such a list is at most 2^32; one past its end is 0
  pub low_bases : bases_fault file bases from ≡ Ok tt → (k : ℕ) → amount_of bases k ≤ 2 ^ 32
  low_bases h k = let g = bases_exactly.0 h in go (dec_lt k (total_of file)) g.0 g.1
    where
      go : Dec (k < total_of file) → length bases ≡ total_of file
          → ((j : ℕ) → j < total_of file → entry_bad file bases j ≡ false) → amount_of bases k ≤ 2 ^ 32
      go (yes l) n g = omega (arith, ((entry_good file bases k).0 (g k l)).below)
      go (no l) n g = rw (get_or-eq_default bases 0 {n = k} (omega (arith, l, n))) (omega arith)

-- ---- a list of bases is good wherever it counts from

pub fault_passed : (file bases : List ℕ) (from other : ℕ) → bases_fault file bases from ≡ Ok tt
    → bases_fault file bases other ≡ Ok tt
fault_passed file bases from other h = (bases_exactly file bases other).1 ((bases_exactly file bases from).0 h)

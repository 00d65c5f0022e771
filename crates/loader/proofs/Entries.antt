-- Laws of lists of bases, an entry at a time. Assumes nothing.
use Rattle.std.specs.Prelude.{Ok, Err}
use Rattle.std.proofs.Common.{◌≡◌, ℕ, suc, ◌+◌, ◌-◌, ◌<◌, ◌≤◌, Bool, true, false, List, length, sym, ap}
use Rattle.std.proofs.Common.{◌∙◌, arith, eq-eqb, ne_eqb}
use Rattle.answers.specs.Numbers as fault
use Rattle.answers.specs.Tests.{pick}
use Rattle.answers.specs.Refusals.{refusal}
use Rattle.program.specs.Header.{total_of}
use Rattle.loader.specs.Bases.{overlap, shares, entry_bad, bases_from, bases_fault}

-- ---- hunks that share an address

module _ (file bases : List ℕ) (i j : ℕ) (some : 0 < j) (r : Bool) (e : r ≡ overlap file bases i (j - 1)) where
  opened : shares file bases i j ≡ pick r true (shares file bases i (j - 1))
  unfolding shares pick
  opened =
      let q : j ≡ suc (j - 1) = omega arith in
      ap (shares file bases i) q ∙ ap (λ (b : Bool). pick b true (shares file bases i (j - 1))) (sym e)

  pub shares_yes : shares file bases i i ≡ shares file bases i j → r ≡ true → true ≡ shares file bases i i
  unfolding pick
  shares_yes z h = sym (z ∙ opened ∙ rw h)

  pub shares_no : shares file bases i i ≡ shares file bases i j → r ≡ false
      → shares file bases i i ≡ shares file bases i (j - 1)
  unfolding pick
  shares_no z h = z ∙ opened ∙ rw h

pub shares_none : (file bases : List ℕ) (i j : ℕ) → shares file bases i i ≡ shares file bases i j → j ≤ 0
    → false ≡ shares file bases i i
unfolding shares pick
shares_none file bases i j z h = let e : j ≡ 0 = omega arith in sym (z ∙ rw e)

-- ---- the entries

module _ (file bases : List ℕ) (from : ℕ) where
  pub count_bad : (t : ℕ) → t ≡ total_of file → (length bases ≡ t → ⊥)
      → Err (refusal fault.bad_base from) ≡ bases_fault file bases from
  unfolding bases_fault pick
  count_bad t e h = rw (ne_eqb _ _ (λ x. h (x ∙ sym e)))

  pub count_good : (t : ℕ) → t ≡ total_of file → length bases ≡ t
      → bases_fault file bases from ≡ bases_from file bases from 0 (t - 0)
  unfolding bases_fault pick
  count_good t e h = let z : t - 0 ≡ t = omega arith in rw (eq-eqb _ _ (h ∙ e), z, e)

  module _ (t i : ℕ) (more : i < t) (r : Bool) (er : r ≡ entry_bad file bases i) where
    pub entries_bad : bases_fault file bases from ≡ bases_from file bases from i (t - i) → r ≡ true
        → Err (refusal fault.bad_base (from + i)) ≡ bases_fault file bases from
    unfolding bases_from pick
    entries_bad z h = let e : t - i ≡ suc (t - (i + 1)) = omega arith in sym (z ∙ rw (e, ← er, h))

    pub entries_on : bases_fault file bases from ≡ bases_from file bases from i (t - i) → r ≡ false
        → bases_fault file bases from ≡ bases_from file bases from (i + 1) (t - (i + 1))
    unfolding bases_from pick
    entries_on z h = let e : t - i ≡ suc (t - (i + 1)) = omega arith in z ∙ rw (e, ← er, h)

  pub entries_end : (t i : ℕ) → bases_fault file bases from ≡ bases_from file bases from i (t - i) → t ≤ i
      → Ok tt ≡ bases_fault file bases from
  unfolding bases_from pick
  entries_end t i z h = let e : t - i ≡ 0 = omega arith in sym (z ∙ rw e)

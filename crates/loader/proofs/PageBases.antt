-- A list of bases in the terms of the page: when it is good, and which of its entries 40 names. Assumes nothing.
use Rattle.std.specs.Prelude.{Ok, Err}
use Rattle.std.proofs.Common.{◌≡◌, ℕ, zero, suc, ◌+◌, ◌<◌, ◌≤◌, ◌↔◌, List, [], ◌∷◌, length, sym, ap, ◌∙◌, inl, inr}
use Rattle.std.proofs.Common.{arith}
use Rattle.answers.specs.Numbers as fault
use Rattle.answers.specs.Refusals.{refusal}
use Rattle.answers.specs.declared.Refusal.{Refusal}
use Rattle.program.specs.Page.{Hunk, Holds}
use Rattle.program.specs.Spaces.{Space}
use Rattle.program.specs.Header.{total_of, space_of, size_of}
use Rattle.program.proofs.Taken.{AllSpaces}
use Rattle.program.proofs.Spaces.{size_same}
use Rattle.program.proofs.Pages.{is_total, all_spaces}
use Rattle.loader.specs.Bases.{bases_fault}
use Rattle.loader.specs.Pages.{size_at}
use Rattle.loader.specs.Verdicts.{Shared, GoodEntry, BadEntry, GoodBases, BadBases}
use Rattle.loader.proofs.BadBases.{BasesWhy, bases_why, bases_exactly, entry_why, entry_good}

-- ---- sizes that agree

module _ (size other : ℕ → ℕ) (bases : List ℕ) where
  same_shared : (i j : ℕ) → size i ≡ other i → size j ≡ other j → Shared size bases i j → Shared other bases i j
  same_shared i j a b s = (s.0, (s.1.0, omega (arith, s.1.1, a)), (s.2.0, omega (arith, s.2.1, b)))

module _ (size other : ℕ → ℕ) (bases : List ℕ) (i : ℕ) (same : (k : ℕ) → k ≤ i → size k ≡ other k) where
  same_good : GoodEntry size bases i → GoodEntry other bases i
  same_good g =
      record {
        multiple = g.multiple;
        below = omega (arith, g.below, same i (omega arith));
        alone =
            λ j l s. g.alone j l (same_shared other size bases i j (sym (same i (omega arith)))
            (sym (same j (omega arith))) s);
      }

  same_bad : BadEntry size bases i → BadEntry other bases i
  same_bad (inl x) = inl x
  same_bad (inr (inl x)) = inr (inl (omega (arith, x, same i (omega arith))))
  same_bad (inr (inr (j, l, s))) =
      inr (inr (j, l, same_shared size other bases i j (same i (omega arith)) (same j (omega arith)) s))

sized_at : (t : ℕ) (space : ℕ → Space) (hs : List Hunk) (h i : ℕ) → AllSpaces t space h hs → i < length hs
    → (space (h + i)).size ≡ size_at hs i
sized_at t space [] h i f l = absurd (omega arith)
sized_at t space (x ∷ xs) h zero f l =
    let z : h + 0 ≡ h = omega arith in size_same (ap space z ∙ sym f.0)
sized_at t space (x ∷ xs) h (suc i) f l =
    let z : h + suc i ≡ h + 1 + i = omega arith in
    size_same (ap space z) ∙ sized_at t space xs (h + 1) i f.2 (omega arith)

-- ---- of a file that holds hunks

module _ (file : List ℕ) (hs : List Hunk) (held : Holds file hs) where
  -- the header has the number and the sizes of the hunks
  pub held_total : total_of file ≡ length hs
  held_total = is_total file hs held.fits held.whole held.words

  pub held_size : (i : ℕ) → i < length hs → size_of file i ≡ size_at hs i
  held_size i l =
      let z : 0 + i ≡ i = omega arith in
      ap (size_of file) (sym z) ∙ sized_at (total_of file) (space_of file) hs 0 i
      (all_spaces file hs held.fits held.whole held.words) l

  module _ (bases : List ℕ) where
    page_good : (i : ℕ) → i < length hs → GoodEntry (size_of file) bases i ↔ GoodEntry (size_at hs) bases i
    page_good i l = (
      same_good (size_of file) (size_at hs) bases i (λ k a. held_size k (omega arith)),
      same_good (size_at hs) (size_of file) bases i (λ k a. sym (held_size k (omega arith))),
    )

    page_bad : (i : ℕ) → i < length hs → BadEntry (size_of file) bases i ↔ BadEntry (size_at hs) bases i
    page_bad i l = (
      same_bad (size_of file) (size_at hs) bases i (λ k a. held_size k (omega arith)),
      same_bad (size_at hs) (size_of file) bases i (λ k a. sym (held_size k (omega arith))),
    )

    -- A list of bases passes if and only if it is good, wherever it counts from.
    pub good_exactly : (from : ℕ) → (bases_fault file bases from ≡ Ok tt) ↔ GoodBases hs bases
    good_exactly from = (there, back)
      where
        there : bases_fault file bases from ≡ Ok tt → GoodBases hs bases
        there h =
            let r = (bases_exactly file bases from).0 h in
            record {
              count = r.0 ∙ held_total;
              entries = λ i l. (page_good i l).0
                  ((entry_good file bases i).0 (r.1 i (omega (arith, l, held_total))));
            }

        back : GoodBases hs bases → bases_fault file bases from ≡ Ok tt
        back g =
            (bases_exactly file bases from).1 (
              g.count ∙ sym held_total,
              λ i l. let k : i < length hs = omega (arith, l, held_total) in (entry_good file
                  bases i).1 ((page_good i k).1 (g.entries i k)),
            )

    -- 40 is given exactly for a wrong count, or at the first bad entry.
    pub bad_exactly : (from p : ℕ)
        → (bases_fault file bases from ≡ Err (refusal fault.bad_base p)) ↔ BadBases hs bases from p
    bad_exactly from p = (
      λ h. there ((bases_why file bases from (refusal fault.bad_base p)).0 h),
      λ h. (bases_why file bases from (refusal fault.bad_base p)).1 (back h),
    )
      where
        there : BasesWhy file bases from (refusal fault.bad_base p) → BadBases hs bases from p
        there (inl x) = inl (λ e. x.1 (e ∙ sym held_total), ap (λ (f : Refusal). f.place) x.0)
        there (inr (c, (i, l, e, b, g))) =
            let k : i < length hs = omega (arith, l, held_total) in
            inr (
              c ∙ held_total,
              (
                i,
                k,
                (page_bad i k).0 ((entry_why file bases i).0 b),
                λ j u. (page_good j (omega arith)).0 ((entry_good file bases j).0 (g j u)),
                ap (λ (f : Refusal). f.place) e,
              ),
            )

        back : BadBases hs bases from p → BasesWhy file bases from (refusal fault.bad_base p)
        back (inl x) = inl (ap (refusal fault.bad_base) x.1, λ e. x.0 (e ∙ held_total))
        back (inr (c, (i, k, b, g, e))) =
            inr (
              c ∙ sym held_total,
              (
                i,
                omega (arith, k, held_total),
                ap (refusal fault.bad_base) e,
                (entry_why file bases i).1 ((page_bad i k).1 b),
                λ j u. (entry_good file bases j).1 ((page_good j (omega arith)).1 (g j u)),
              ),
            )

-- The table after a load or a move, record by record, and in the terms of the page. Assumes nothing.
use Prim.Native.Nat.{ℕ, suc, ◌+◌, ◌*◌, ◌/◌, ◌%◌, ◌<◌, ◌≤◌}
use mathlib.Core.Path.{◌≡◌, refl, sym, ap, ap₂, ◌∙◌}
use mathlib.Core.List.{List, [], ◌∷◌, ◌++◌}
use native.Mathlib.Omega.{arith}
use lib.ListN.{length, get_or, drop}
use lib.Seq.{take_all}
use Rattle.words.specs.Word.{words_at}
use Rattle.program.specs.Page.{written, Program}
use Rattle.program.specs.Page as page
use Rattle.program.specs.Header.{total_of}
use Rattle.program.proofs.Pages.{is_total}
use Rattle.loader.specs.Table.{record_length, records_of}
use Rattle.loader.specs.Pages.{record_numbers}
use Rattle.loader.proofs.PageLoads.{page_records_lem}
use Rattle.hunks.specs.declared.Hunk.{Hunk}
use Rattle.hunks.specs.Records.{record_at, records_from, filled, hunks_of, numbers_in}
use Rattle.hunks.specs.Pages.{page_records}
use Rattle.hunks.proofs.Filling.{record_of_lem, record_stays}
use Rattle.hunks.proofs.Numbering.{length_numbers, numbers_from, same_table}

-- ---- record by record

-- Record i of the program is its hunk's, and a further record stays.
pub hunk_record : (file bases : List ℕ) (t : List Hunk) (i : ℕ) (d : Hunk) → i < total_of file
    → get_or (hunks_of file bases t) i d ≡ record_at (records_of file bases) i
hunk_record file bases t i d h = record_of_lem (records_of file bases) (total_of file) t i d h

pub hunk_stays : (file bases : List ℕ) (t : List Hunk) (i : ℕ) (d : Hunk) → total_of file ≤ i
    → get_or (hunks_of file bases t) i d ≡ get_or t i d
hunk_stays file bases t i d h = record_stays (records_of file bases) (total_of file) t i d h

-- ---- in the terms of the page

page_numbers : (p i : ℕ) (hs : List page.Hunk) (bases : List ℕ)
    → numbers_in (page_records p i hs bases) ≡ record_numbers p i hs bases
unfolding page_records numbers_in
page_numbers p i [] bases = refl
page_numbers p i (h ∷ hs) bases = rw (page_numbers (p + 4 * h.space.size) (i + 1) hs bases)

length_page : (p i : ℕ) (hs : List page.Hunk) (bases : List ℕ) → length (page_records p i hs bases) ≡ length hs
unfolding page_records
length_page p i [] bases = refl
length_page p i (h ∷ hs) bases = ap suc (length_page (p + 4 * h.space.size) (i + 1) hs bases)

module _ (file : List ℕ) (hs : List page.Hunk) (pr : Program hs) (whole : length file % 4 ≡ 0)
    (e : words_at file 0 (length file / 4) ≡ written hs) where
  -- Of a file that is hunks, written out, the table gets one record a hunk; further records stay.
  pub page_table : (bases : List ℕ) (t : List Hunk)
      → hunks_of file bases t ≡ page_records 0 0 hs bases ++ drop (length (page_records 0 0 hs bases)) t
  page_table bases t =
      let ns : List ℕ = record_numbers 0 0 hs bases in
      let l : length ns ≡ record_length * length hs =
      sym (ap length (page_numbers 0 0 hs bases)) ∙ length_numbers (page_records 0 0 hs bases)
      ∙ ap (λ k. record_length * k) (length_page 0 0 hs bases) in
      let q : records_from ns 0 (length hs) ≡ page_records 0 0 hs bases =
      same_table _ _ (numbers_from ns 0 (length hs) (omega (arith, l))
      ∙ take_all (record_length * length hs) ns (omega (arith, l)) ∙ sym (page_numbers 0 0 hs bases)) in
      ap₂ (λ ms k. filled ms k t) (page_records_lem file hs pr whole e bases) (is_total file hs pr whole e)
      ∙ ap (λ s. s ++ drop (length hs) t) q ∙ ap (λ k. page_records 0 0 hs bases ++ drop k t)
      (sym (length_page 0 0 hs bases))

-- An accepted load and an accepted move in one statement each, in the terms of the page. Assumes nothing.
use Rattle.std.proofs.Common.{◌≡◌, ℕ, ◌*◌, List, ◌++◌, length, drop, sym, ap, ◌∙◌, ap₂}
use Rattle.program.proofs.Answers.{accepted_same}
use Rattle.program.specs.Page.{Hunk, Holds, total}
use Rattle.program.specs.Check.{accepted, check_of}
use Rattle.program.proofs.Pages.{is_total, page_accepted, accepted_page}
use Rattle.loader.specs.Table.{record_length, table_of}
use Rattle.loader.specs.Calls.{records_in, Loads, Moves}
use Rattle.loader.specs.Pages.{record_numbers, LoadedPage, MovedPage}
use Rattle.loader.proofs.Deciding.{load_exactly, move_exactly}
use Rattle.loader.proofs.PageLoads.{length_numbers, page_records_lem, page_loads, page_moves}

-- the numbers of an accepted file
numbers : (file : List ℕ) (hs : List Hunk) (x n : ℕ) → Holds file hs → check_of file ≡ accepted x n
    → (x ≡ length hs) × (n ≡ 4 * total hs)
numbers file hs x n h c =
    accepted_same x n (length hs) (4 * total hs) (sym c ∙ page_accepted file hs h)

page_table : (file : List ℕ) (hs : List Hunk) → Holds file hs → (bases t : List ℕ)
    → table_of file bases t ≡ record_numbers 0 0 hs bases ++ drop (length (record_numbers 0 0 hs bases)) t
page_table file hs h bases t =
    ap₂ (λ (l : List ℕ) (k : ℕ). l ++ drop (record_length * k) t)
    (page_records_lem file hs h.fits h.whole h.words bases)
    (is_total file hs h.fits h.whole h.words)
    ∙ ap (λ (k : ℕ). record_numbers 0 0 hs bases ++ drop k t) (sym (length_numbers 0 0 hs bases))

module _ (file m t w : List ℕ) (x n : ℕ) (m' t' w' : List ℕ) where
  load_checked : (bases : List ℕ) → Loads file bases m t w (accepted x n) m' t' w' → check_of file ≡ accepted x n
  load_checked bases l = ((load_exactly file (length m) (records_in t) (length w) x n bases).0 (sym l.answer)).0

  -- for any hunks that the file holds
  pub load_held : (bases : List ℕ) → Loads file bases m t w (accepted x n) m' t' w' → (hs : List Hunk) → Holds file hs
      → LoadedPage (record_numbers 0 0) hs bases m t x n m' t'
  load_held bases l hs h =
      let k = numbers file hs x n h (load_checked bases l) in
      record {
        hunks = k.0;
        bytes = k.1;
        memory = l.loaded ∙ page_loads file hs h.fits h.whole h.words bases m;
        table = l.recorded ∙ page_table file hs h bases t;
      }

  -- and it holds some
  pub load_page : (bases : List ℕ) → Loads file bases m t w (accepted x n) m' t' w'
      → (hs : List Hunk) × Holds file hs × LoadedPage (record_numbers 0 0) hs bases m t x n m' t'
  load_page bases l =
      let p = accepted_page file x n (load_checked bases l) in (p.0, p.1, load_held bases l p.0 p.1)

  move_checked : (old new : List ℕ) → Moves file old new m t w (accepted x n) m' t' w' → check_of file ≡ accepted x n
  move_checked old new l =
      let a = ((move_exactly file (length m) (records_in t) (length w) x n old new).0 (sym l.answer)).0 in
      ((load_exactly file (length m) (records_in t) (length w) x n old).0 a).0

  pub move_held : (old new : List ℕ) → Moves file old new m t w (accepted x n) m' t' w' → (hs : List Hunk)
      → Holds file hs → MovedPage (record_numbers 0 0) hs old new m t x n m' t'
  move_held old new l hs h =
      let k = numbers file hs x n h (move_checked old new l) in
      record {
        hunks = k.0;
        bytes = k.1;
        memory = l.shifted ∙ page_moves file hs h.fits h.whole h.words old new m;
        table = l.recorded ∙ page_table file hs h new t;
      }

  pub move_page : (old new : List ℕ) → Moves file old new m t w (accepted x n) m' t' w'
      → (hs : List Hunk) × Holds file hs × MovedPage (record_numbers 0 0) hs old new m t x n m' t'
  move_page old new l =
      let p = accepted_page file x n (move_checked old new l) in (p.0, p.1, move_held old new l p.0 p.1)

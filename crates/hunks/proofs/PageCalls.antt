-- An accepted load and an accepted move in the terms of the page, with tables of structs: in one statement each, and
-- what becomes of each target and of every other byte. Each is the loader's law over the numbers of the tables.
-- Assumes nothing.
use Prim.Native.Nat.{ℕ}
use mathlib.Core.Path.{◌≡◌, ◌∙◌}
use mathlib.Core.List.{List}
use lib.ListN.{length, get_or}
use Rattle.program.specs.Check.{accepted}
use Rattle.program.specs.Page.{Holds}
use Rattle.program.specs.Page as page
use Rattle.loader.specs.Memory.{amount_of, moved}
use Rattle.loader.specs.Pages.{image_of, file_targets, Adds, Outside, with_hunks, LoadedPage, MovedPage}
use Rattle.loader.proofs.PageCalls as numbers
use Rattle.loader.proofs.Targets as targets
use Rattle.hunks.specs.declared.Hunk.{Hunk}
use Rattle.hunks.specs.Records.{numbers_in}
use Rattle.hunks.specs.Calls.{Loads, Moves}
use Rattle.hunks.specs.Pages.{page_records}
use Rattle.hunks.proofs.Numbering.{load_numbers, move_numbers}
use Rattle.hunks.proofs.PageTables.{page_table}

module _ (file m : List ℕ) (t : List Hunk) (w : List ℕ) (x n : ℕ) (m' : List ℕ) (t' : List Hunk) (w' : List ℕ) where
  module _ (bases : List ℕ) (l : Loads file bases m t w (accepted x n) m' t' w') where
    -- for any hunks that the file holds
    pub load_held : (hs : List page.Hunk) → Holds file hs → LoadedPage (page_records 0 0) hs bases m t x n m' t'
    load_held hs h =
        let p =
        numbers.load_held file m (numbers_in t) w x n m' (numbers_in t') w' bases
        (load_numbers file bases m t w _ m' t' w' l) hs h in
        record {
          hunks = p.hunks;
          bytes = p.bytes;
          memory = p.memory;
          table = l.recorded ∙ page_table file hs h.fits h.whole h.words bases t;
        }

    -- and it holds some
    pub load_page : (hs : List page.Hunk) × Holds file hs × LoadedPage (page_records 0 0) hs bases m t x n m' t'
    load_page =
        let p =
        numbers.load_page file m (numbers_in t) w x n m' (numbers_in t') w' bases
        (load_numbers file bases m t w _ m' t' w' l) in
        (p.0, p.1, load_held p.0 p.1)

    -- at each target: the stored word and the base of its hunk
    pub load_words : (hs : List page.Hunk) → Holds file hs → Adds (image_of hs) m' (file_targets hs) (amount_of bases)
    load_words hs h =
        targets.load_words file hs h m (numbers_in t) w x n m' (numbers_in t') w' bases
        (load_numbers file bases m t w _ m' t' w' l)

    -- every other byte: the hunks', and after them what stood there
    pub load_others : (hs : List page.Hunk) → Holds file hs → (k : ℕ) → Outside k (file_targets hs)
        → get_or m' k 0 ≡ get_or (with_hunks hs m) k 0
    load_others hs h =
        targets.load_others file hs h m (numbers_in t) w x n m' (numbers_in t') w' bases
        (load_numbers file bases m t w _ m' t' w' l)

  module _ (old new : List ℕ) (l : Moves file old new m t w (accepted x n) m' t' w') where
    pub move_held : (hs : List page.Hunk) → Holds file hs → MovedPage (page_records 0 0) hs old new m t x n m' t'
    move_held hs h =
        let p =
        numbers.move_held file m (numbers_in t) w x n m' (numbers_in t') w' old new
        (move_numbers file old new m t w _ m' t' w' l) hs h in
        record {
          hunks = p.hunks;
          bytes = p.bytes;
          memory = p.memory;
          table = l.recorded ∙ page_table file hs h.fits h.whole h.words new t;
        }

    pub move_page : (hs : List page.Hunk) × Holds file hs × MovedPage (page_records 0 0) hs old new m t x n m' t'
    move_page =
        let p =
        numbers.move_page file m (numbers_in t) w x n m' (numbers_in t') w' old new
        (move_numbers file old new m t w _ m' t' w' l) in
        (p.0, p.1, move_held p.0 p.1)

    -- at each target: what stood there, and new minus old base
    pub move_words : (hs : List page.Hunk) → Holds file hs → Adds m m' (file_targets hs) (moved old new)
    move_words hs h =
        targets.move_words file hs h m (numbers_in t) w x n m' (numbers_in t') w' old new
        (move_numbers file old new m t w _ m' t' w' l)

    -- every other byte is as it was
    pub move_others_stay : (hs : List page.Hunk) → Holds file hs
        → (length m' ≡ length m) × ((k : ℕ) → Outside k (file_targets hs) → get_or m' k 0 ≡ get_or m k 0)
    move_others_stay hs h =
        targets.move_others_stay file hs h m (numbers_in t) w x n m' (numbers_in t') w' old new
        (move_numbers file old new m t w _ m' t' w' l)

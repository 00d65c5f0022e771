-- The hunk table in the terms of the page: the records of a list of hunks that stand end to end (docs/FORMAT.md, "The
-- program file"). What an accepted call leaves is `LoadedPage` and `MovedPage` of `loader`, with these records.
use Rattle.std.specs.Prelude.{ℕ, ◌+◌, ◌*◌, List, [], ◌∷◌}
use Rattle.program.specs.Page as page
use Rattle.loader.specs.Memory.{amount_of}
use Rattle.loader.specs.Pages.{kind_of}
use Rattle.hunks.specs.declared.Hunk.{Hunk}

-- kind, place, size, base and kind of memory of each hunk; the first stands at byte p and has number i
unfoldable pub page_records : ℕ → ℕ → List page.Hunk → List ℕ → List Hunk
page_records p i [] bases = []
page_records p i (h ∷ hs) bases =
    record {
      kind = kind_of h.body;
      place = p;
      size = h.space.size;
      base = amount_of bases i;
      memory = h.space.memory;
    }
    ∷ page_records (p + 4 * h.space.size) (i + 1) hs bases

-- What holds of the reader's cursor while it reads a file whose header passed the tests.
use Rattle.std.specs.Prelude.{ℕ, zero, suc, ◌+◌, ◌*◌, ◌<◌, ◌≤◌, ◌≡◌, List, length}
use Rattle.program.specs.Types as type
use Rattle.program.specs.declared.reader.Cursor.{Cursor}
use Rattle.program.specs.declared.reader.Mode.{Mode}
use Rattle.program.specs.declared.reader.Mode.TheVariants.{Begin, NameLength, Body, Length, Stored, Part}
use Rattle.program.specs.declared.reader.Mode.TheVariants.{Count, Number, Offset, Symbol, DebugLength, Skip}
use Rattle.program.specs.declared.reader.Mode.TheVariants.{End}
use Rattle.program.specs.Spaces.{Space, SpaceFits}
use Rattle.program.specs.Header.{total_of, space_of, size_of, start_at}

-- the header's numbers are within the limits, and all of it is there
pub record HeaderFits (file : List ℕ) : Type 0 where
  pub few : total_of file ≤ type.most_hunks
  pub some : 1 ≤ total_of file
  pub long : start_at file ≤ length file
  pub spaces : (i : ℕ) → i < total_of file → SpaceFits (space_of file i)

-- hunk i's first byte in memory: hunks stand end to end
unfoldable pub place_of : (ℕ → Space) → ℕ → ℕ
place_of space zero = 0
place_of space (suc i) = place_of space i + 4 * (space i).size

-- of t hunks, hunk h that stores n words, and what is expected
abbrev pub ModeFits : ℕ → ℕ → ℕ → Mode → Type 0
ModeFits t h n Begin = h < t
ModeFits t h n NameLength = h < t
ModeFits t h n Body = h < t
ModeFits t h n (Length k) = h < t
ModeFits t h n (Stored i) = (h < t) × (i < n)
ModeFits t h n Part = h < t
ModeFits t h n Count = h < t
ModeFits t h n (Number l) = h < t
ModeFits t h n (Offset l k) = (h < t) × (k < t)
ModeFits t h n Symbol = h < t
ModeFits t h n DebugLength = h < t
ModeFits t h n (Skip l a) = h < t
ModeFits t h n End = h ≡ t

-- the cursor stands in a hunk of the file, at that hunk's place, and expects what may come there; or after the last
-- hunk
pub record CursorFits (file : List ℕ) (c : Cursor) : Type 0 where
  pub header : HeaderFits file
  pub hunks : c.hunk ≤ total_of file
  pub place : c.place ≡ place_of (space_of file) c.hunk
  pub low : c.place ≤ c.hunk * 262144
  pub fits : c.stored ≤ size_of file c.hunk
  pub mode : ModeFits (total_of file) c.hunk c.stored c.mode

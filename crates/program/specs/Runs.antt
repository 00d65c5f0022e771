-- Words that are stored or passed over, which the reader takes whatever they are: where they lead. Code may go on
-- after them in one step.
use Rattle.std.specs.Prelude.{ℕ, ◌+◌, ◌-◌, ◌%◌, ◌<◌, ◌≤◌, ◌≡◌, List, eqb, length}
use Rattle.answers.specs.Tests.{pick}
use Rattle.program.specs.declared.reader.After.{After}
use Rattle.program.specs.declared.reader.Cursor.{Cursor}
use Rattle.program.specs.declared.reader.Mode.{Mode}
use Rattle.program.specs.declared.reader.Mode.TheVariants.{Stored, Part, Skip}
use Rattle.program.specs.Reader.{resume}
use Rattle.program.specs.Check.{rest_of, walk_of}
use Rattle.program.specs.Cursors.{CursorFits}

-- ---- cursors

-- the same hunk, with another word to come
abbrev pub moded_of : Cursor → Mode → Cursor
moded_of c m = record { mode = m; hunk = c.hunk; place = c.place; stored = c.stored }

-- before n words that are passed over
abbrev pub skip_at : Cursor → ℕ → After → Cursor
skip_at c n a = pick (eqb n 0) (moded_of c (resume a)) (moded_of c (Skip (n - 1) a))

-- before the stored word i, or after the last
abbrev pub stored_at : Cursor → ℕ → Cursor
stored_at c i = pick (eqb i c.stored) (moded_of c Part) (moded_of c (Stored i))

-- ---- where a reader comes to

-- at byte `at` of a file whose header passed the tests, the cursor is c, and what is left decides the check
pub record Reads (file : List ℕ) (c : Cursor) (at : ℕ) : Type 0 where
  pub fits : CursorFits file c
  pub whole : length file % 4 ≡ 0
  pub within : at ≤ length file
  pub aligned : at % 4 ≡ 0
  pub rest : walk_of file ≡ rest_of file at c

-- ---- runs of words

-- from the cursor c at byte `at` to the cursor d at byte `to`
pub data Leads (file : List ℕ) : Cursor → ℕ → Cursor → ℕ → Type 0 where
  here : {c : Cursor} {at : ℕ} → Leads file c at c at
  stores : {c d : Cursor} {i at to : ℕ}
      → at < length file → c.mode ≡ Stored i → Leads file (stored_at c (i + 1)) (at + 4) d to
      → Leads file c at d to
  passes : {c d : Cursor} {n : ℕ} {a : After} {at to : ℕ}
      → at < length file → c.mode ≡ Skip n a → Leads file (skip_at c n a) (at + 4) d to
      → Leads file c at d to

-- A refusal by the reader, word by word (`Because`): a step towards `Says` of specs/Verdicts, in which no reader
-- stands. Assumes nothing.
use Prim.Native.Nat.{ℕ, ◌+◌, ◌*◌, ◌%◌, ◌<◌, ◌≤◌}
use mathlib.Core.Path.{◌≡◌}
use mathlib.Core.Logic.{◌≢◌, ◌⊎◌}
use mathlib.Core.List.{List}
use lib.ListN.{length}
use Rattle.std.specs.Prelude.{Ok, Err}
use Rattle.program.specs.Spaces.{Space}
use Rattle.program.specs.Types as type
use Rattle.answers.specs.Numbers as fault
use Rattle.words.specs.Word.{word_at}
use Rattle.answers.specs.Refusals.{refusal}
use Rattle.answers.specs.declared.Refusal.{Refusal}
use Rattle.program.specs.declared.reader.Cursor.{Cursor}
use Rattle.program.specs.declared.reader.Mode.{Mode}
use Rattle.program.specs.declared.reader.Mode.TheVariants.{Begin, NameLength, Body, Length, Stored, Part}
use Rattle.program.specs.declared.reader.Mode.TheVariants.{Count, Number, Offset, Symbol, DebugLength, Skip}
use Rattle.program.specs.declared.reader.Mode.TheVariants.{End}
use Rattle.program.specs.Header.{total_of, space_of, start_at}
use Rattle.program.specs.Reader.{start, step_of}
use Rattle.program.specs.Verdicts.{BadLength, GoodLength, HeadWord, Headed}

-- the reader comes to byte `at` with the cursor c: it has taken every word of the hunks before that byte
pub data Comes (file : List ℕ) : Cursor → ℕ → Type 0 where
  begins : Comes file start (start_at file)
  takes : {c d : Cursor} {at : ℕ} → Comes file c at → at < length file
      → step_of (total_of file) (space_of file) c (word_at file at) ≡ Ok d → Comes file d (at + 4)

-- 35 to 39: it comes to a word that it does not take
pub record HunkWord (file : List ℕ) (f : Refusal) : Type 0 where
  pub cursor : Cursor
  pub at : ℕ
  pub comes : Comes file cursor at
  pub there : at < length file
  pub number : ℕ
  pub refuses : step_of (total_of file) (space_of file) cursor (word_at file at) ≡ Err number
  pub said : f ≡ refusal number at

-- 31: it comes to the end of the file, and the last hunk has not ended
pub record Missing (file : List ℕ) (f : Refusal) : Type 0 where
  pub cursor : Cursor
  pub comes : Comes file cursor (length file)
  pub unended : cursor.mode ≢ End
  pub said : f ≡ refusal fault.early_end (length file)

-- which word w is not taken, by what the reader expects there: v is the number
abbrev pub Refuses : ℕ → (ℕ → Space) → Cursor → ℕ → ℕ → Mode → Type 0
Refuses t space c w v Begin =
    (v ≡ fault.misplaced_block) × (w ≢ type.name) × (w ≢ type.code) × (w ≢ type.stores) × (w ≢ type.bss)
Refuses t space c w v Body = (v ≡ fault.misplaced_block) × (w ≢ type.code) × (w ≢ type.stores) × (w ≢ type.bss)
Refuses t space c w v (Length k) = (v ≡ fault.body_length) × ((space c.hunk).size < w)
Refuses t space c w v Part =
    (v ≡ fault.misplaced_block) × (w ≢ type.relocation) × (w ≢ type.symbols) × (w ≢ type.debug) × (w ≢ type.end)
Refuses t space c w v (Number n) = (v ≡ fault.bad_target) × (t ≤ w)
Refuses t space c w v (Offset n k) = (v ≡ fault.bad_target) × ((w % 2 ≢ 0) ⊎ (4 * c.stored < w + 4))
Refuses t space c w v Symbol = (v ≡ fault.symbol_type) × (0x1000000 ≤ w)
Refuses t space c w v End = v ≡ fault.trailing_words
Refuses t space c w v NameLength = ⊥
Refuses t space c w v (Stored i) = ⊥
Refuses t space c w v Count = ⊥
Refuses t space c w v DebugLength = ⊥
Refuses t space c w v (Skip n a) = ⊥

-- any refusal, by the reader: `Refusing.refused_exactly` turns it into `Says`
abbrev pub Because : List ℕ → Refusal → Type 0
Because file f =
    (BadLength file × (f ≡ refusal fault.file_length 0))
    ⊎ (GoodLength file × HeadWord file f)
    ⊎ (GoodLength file × Headed file × (HunkWord file f ⊎ Missing file f))

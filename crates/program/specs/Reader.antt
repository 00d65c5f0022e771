-- The reader of the hunks: what it expects, and where each word takes it (docs/FORMAT.md, "The program file"). It
-- knows the number t of hunks and the space of each; a word that may not stand there gives a refusal's number.
use Rattle.std.specs.Prelude.{Result, Ok, Err, ℕ, ◌+◌, ◌-◌, ◌*◌, ◌%◌, ltb, leb, eqb}
use Rattle.program.specs.Types as type
use Rattle.answers.specs.Numbers as fault
use Rattle.answers.specs.Tests.{pick}
use Rattle.answers.specs.Refusals as refusals
use Rattle.answers.specs.declared.Fault.{Fault}
use Rattle.program.specs.Spaces.{Space}
use Rattle.program.specs.declared.reader.Cursor.{Cursor}
use Rattle.program.specs.declared.reader.After.{After}
use Rattle.program.specs.declared.reader.After.TheVariants as after
use Rattle.program.specs.declared.reader.Mode.{Mode}
use Rattle.program.specs.declared.reader.Mode.TheVariants.{Begin, NameLength, Body, Length, Stored, Part}
use Rattle.program.specs.declared.reader.Mode.TheVariants.{Count, Number, Offset, Symbol, DebugLength, Skip}
use Rattle.program.specs.declared.reader.Mode.TheVariants.{End}

-- what a word gives: the cursor after it, or the number of a refusal
abbrev pub Next : Type 0
Next = Result Cursor ℕ

-- what code gives, with its fault as a number
abbrev pub numbered : Result Cursor Fault → Next
numbered (Ok c) = Ok c
numbered (Err f) = Err (refusals.number_of f)

-- where the first hunk begins
abbrev pub start : Cursor
start = record { mode = Begin; hunk = 0; place = 0; stored = 0 }

-- all but the mode stays
abbrev pub on : Cursor → Mode → Next
on c m = Ok (record { mode = m; hunk = c.hunk; place = c.place; stored = c.stored })

abbrev pub resume : After → Mode
resume after.Body = Body
resume after.Symbol = Symbol
resume after.Part = Part

-- n words are passed over
abbrev pub skip : Cursor → ℕ → After → Next
skip c n a = pick (eqb n 0) (on c (resume a)) (on c (Skip (n - 1) a))

-- code, data or bss
abbrev pub body_of : Cursor → ℕ → Next
body_of c w =
    pick (eqb w type.code) (on c (Length w))
    (pick (eqb w type.stores) (on c (Length w))
    (pick (eqb w type.bss) (on c (Length w)) (Err fault.misplaced_block)))

-- a name block, or the body
abbrev pub begin_of : Cursor → ℕ → Next
begin_of c w = pick (eqb w type.name) (on c NameLength) (body_of c w)

-- the stored word i, if there are so many
abbrev pub stored_from : Cursor → ℕ → Next
stored_from c i = pick (eqb i c.stored) (on c Part) (on c (Stored i))

abbrev pub count_of : Cursor → ℕ → Next
count_of c w = pick (eqb w 0) (on c Part) (on c (Number (w - 1)))

-- an even offset, from which on four bytes are stored
abbrev pub offset_of : Cursor → ℕ → ℕ → ℕ → Next
offset_of c n k w =
    pick (eqb (w % 2) 0)
    (pick (ltb (4 * c.stored) (w + 4)) (Err fault.bad_target) (pick (eqb n 0) (on c Count) (on c (Offset (n - 1) k))))
    (Err fault.bad_target)

-- a type byte of 0 and a length of 24 bits; then the name's words and a value
abbrev pub symbol_of : Cursor → ℕ → Next
symbol_of c w = pick (eqb w 0) (on c Part) (pick (leb 0x1000000 w) (Err fault.symbol_type) (on c (Skip w after.Symbol)))

-- the number of one of t hunks
abbrev pub number_of : ℕ → Cursor → ℕ → ℕ → Next
number_of t c n w = pick (ltb w t) (on c (Offset n w)) (Err fault.bad_target)

-- at most as many words as the hunk's size; bss stores none of them
abbrev pub length_of : (ℕ → Space) → Cursor → ℕ → ℕ → Next
length_of space c kind w =
    pick (ltb (space c.hunk).size w) (Err fault.body_length)
    (stored_from (record { mode = Part; hunk = c.hunk; place = c.place; stored = pick (eqb kind type.bss) 0 w }) 0)

module _ (t : ℕ) (space : ℕ → Space) where
  -- on to the next hunk, or to the end of the file
  abbrev pub end_of : Cursor → Next
  end_of c =
      Ok
      (record {
        mode = pick (eqb (c.hunk + 1) t) End Begin;
        hunk = c.hunk + 1;
        place = c.place + 4 * (space c.hunk).size;
        stored = 0;
      })

  -- relocations, symbols, debug words, or the hunk's end
  abbrev pub part_of : Cursor → ℕ → Next
  part_of c w =
      pick (eqb w type.relocation) (on c Count)
      (pick (eqb w type.symbols) (on c Symbol)
      (pick (eqb w type.debug) (on c DebugLength)
      (pick (eqb w type.end) (end_of c) (Err fault.misplaced_block))))

  abbrev pub turn : Cursor → ℕ → Mode → Next
  turn c w Begin = begin_of c w
  turn c w NameLength = skip c w after.Body
  turn c w Body = body_of c w
  turn c w (Length kind) = length_of space c kind w
  turn c w (Stored i) = stored_from c (i + 1)
  turn c w Part = part_of c w
  turn c w Count = count_of c w
  turn c w (Number n) = number_of t c n w
  turn c w (Offset n k) = offset_of c n k w
  turn c w Symbol = symbol_of c w
  turn c w DebugLength = skip c w after.Part
  turn c w (Skip n a) = skip c n a
  turn c w End = Err fault.trailing_words

  -- the reader takes the word w
  unfoldable pub step_of : Cursor → ℕ → Next
  step_of c w = turn c w c.mode

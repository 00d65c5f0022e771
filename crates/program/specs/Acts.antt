-- What a word of a program file asks of memory and table, by where the reader is.
use Rattle.std.specs.Prelude.{Ok, Err, ℕ, ◌+◌, ◌*◌, List, [], ◌∷◌, eqb}
use Rattle.program.specs.Types as type
use Rattle.answers.specs.Tests.{pick}
use Rattle.program.specs.declared.act.Act.{Act}
use Rattle.program.specs.declared.act.Act.TheVariants as act
use Rattle.program.specs.declared.reader.Cursor.{Cursor}
use Rattle.program.specs.declared.reader.Mode.{Mode}
use Rattle.program.specs.declared.reader.Mode.TheVariants.{Begin, NameLength, Body, Length, Stored, Part}
use Rattle.program.specs.declared.reader.Mode.TheVariants.{Count, Number, Offset, Symbol, DebugLength, Skip}
use Rattle.program.specs.declared.reader.Mode.TheVariants.{End}
use Rattle.program.specs.Spaces.{Space}
use Rattle.program.specs.Header.{total_of, space_of, start_at}
use Rattle.program.specs.Reader.{Next, start, step_of}
use Rattle.program.specs.Check.{words_from}

abbrev pub asks : Cursor → ℕ → ℕ → Mode → Act
asks c at w Begin = pick (eqb w type.name) act.Quiet (act.Body c.hunk c.place w)
asks c at w Body = act.Body c.hunk c.place w
asks c at w (Stored i) = act.Store (c.place + 4 * i) w
asks c at w (Offset n k) = act.Add (c.place + w) k at
asks c at w NameLength = act.Quiet
asks c at w (Length k) = act.Quiet
asks c at w Part = act.Quiet
asks c at w Count = act.Quiet
asks c at w (Number n) = act.Quiet
asks c at w Symbol = act.Quiet
asks c at w DebugLength = act.Quiet
asks c at w (Skip n a) = act.Quiet
asks c at w End = act.Quiet

-- the word w, at byte `at`
unfoldable pub act_of : Cursor → ℕ → ℕ → Act
act_of c at w = asks c at w c.mode

abbrev pub then : Next → Act → (Cursor → List Act) → List Act
then (Ok d) a f = a ∷ f d
then (Err v) a f = []

-- the words that are left, the first of them at byte `at`
unfoldable pub acts : ℕ → (ℕ → Space) → ℕ → Cursor → List ℕ → List Act
acts t space at c [] = []
acts t space at c (w ∷ ws) = then (step_of t space c w) (act_of c at w) (λ d. acts t space (at + 4) d ws)

-- what a file asks for, in file order: from a cursor on, and all of it
abbrev pub acts_from : List ℕ → ℕ → Cursor → List Act
acts_from file at c = acts (total_of file) (space_of file) at c (words_from file at)

abbrev pub acts_of : List ℕ → List Act
acts_of file = acts_from file (start_at file) start

-- a pass: each act changes x, one after the other
unfoldable pub pass : {X : Type 0} → (X → Act → X) → X → List Act → X
pass g x [] = x
pass g x (a ∷ us) = pass g (g x a) us

-- The check of a program file: its faults in file order, or the number of its hunks and the bytes that they take
-- (docs/FORMAT.md, "Numbers").
use Rattle.std.specs.Prelude.{Result, Ok, Err, ℕ, ◌+◌, ◌-◌, ◌/◌, ◌%◌, ◌≡◌, List, [], ◌∷◌, eqb, length}
use Rattle.words.specs.Word.{words_at}
use Rattle.answers.specs.Answers.{AnswerNumbers, accepted_as, refused_as}
use Rattle.answers.specs.Numbers as fault
use Rattle.answers.specs.Tests.{pick}
use Rattle.answers.specs.Refusals.{refusal}
use Rattle.answers.specs.declared.Refusal.{Refusal}
use Rattle.program.specs.declared.check.Extent.{Extent}
use Rattle.program.specs.declared.reader.Cursor.{Cursor}
use Rattle.program.specs.declared.reader.Mode.{Mode}
use Rattle.program.specs.declared.reader.Mode.TheVariants.{Begin, NameLength, Body, Length, Stored, Part}
use Rattle.program.specs.declared.reader.Mode.TheVariants.{Count, Number, Offset, Symbol, DebugLength, Skip}
use Rattle.program.specs.declared.reader.Mode.TheVariants.{End}
use Rattle.program.specs.Spaces.{Space}
use Rattle.program.specs.Header.{total_of, space_of, start_at, heads}
use Rattle.program.specs.Reader.{Next, start, step_of}

-- what a check, a load and a move answer: the number of hunks and the bytes that they take, or a refusal
abbrev pub Answer : Type 0
Answer = Result Extent Refusal

-- t hunks that take n bytes
abbrev pub accepted : ℕ → ℕ → Answer
accepted t n = Ok (record { hunks = t; bytes = n })

-- an answer's numbers
abbrev pub numbers_of : Answer → AnswerNumbers Extent
numbers_of (Ok v) = accepted_as v
numbers_of (Err r) = refused_as (record { hunks = 0; bytes = 0 }) r

-- the numbers of all refusals of a check
abbrev pub check_refusals : List ℕ
check_refusals =
    fault.file_length ∷ fault.early_end ∷ fault.header_word ∷ fault.library ∷ fault.hunk_size
    ∷ fault.misplaced_block ∷ fault.body_length ∷ fault.symbol_type ∷ fault.bad_target ∷ fault.trailing_words
    ∷ fault.both_memories ∷ []

abbrev pub refuse : ℕ → ℕ → Answer
refuse v at = Err (refusal v at)

-- the words are over, at the file's end: a word is missing unless the last hunk has ended
abbrev pub ended_of : ℕ → Cursor → Mode → Answer
ended_of end c End = accepted c.hunk c.place
ended_of end c Begin = refuse fault.early_end end
ended_of end c NameLength = refuse fault.early_end end
ended_of end c Body = refuse fault.early_end end
ended_of end c (Length k) = refuse fault.early_end end
ended_of end c (Stored i) = refuse fault.early_end end
ended_of end c Part = refuse fault.early_end end
ended_of end c Count = refuse fault.early_end end
ended_of end c (Number n) = refuse fault.early_end end
ended_of end c (Offset n k) = refuse fault.early_end end
ended_of end c Symbol = refuse fault.early_end end
ended_of end c DebugLength = refuse fault.early_end end
ended_of end c (Skip n a) = refuse fault.early_end end

abbrev pub next : Next → ℕ → (Cursor → Answer) → Answer
next (Ok d) at f = f d
next (Err v) at f = refuse v at

-- the words that are left, the first of them at byte `at` of a file that ends at `end`
unfoldable pub walk : ℕ → (ℕ → Space) → ℕ → ℕ → Cursor → List ℕ → Answer
walk t space end at c [] = ended_of end c c.mode
walk t space end at c (w ∷ ws) = next (step_of t space c w) at (λ d. walk t space end (at + 4) d ws)

-- the words from byte `at` to the end
abbrev pub words_from : List ℕ → ℕ → List ℕ
words_from file at = words_at file at ((length file - at) / 4)

-- from the cursor c on, at byte `at`
abbrev pub rest_of : List ℕ → ℕ → Cursor → Answer
rest_of file at c = walk (total_of file) (space_of file) (length file) at c (words_from file at)

-- all hunks
abbrev pub walk_of : List ℕ → Answer
walk_of file = rest_of file (start_at file) start

-- what follows tests
abbrev pub and : Result Unit Refusal → Answer → Answer
and (Ok u) a = a
and (Err r) a = Err r

unfoldable pub check_of : List ℕ → Answer
check_of file =
    pick (eqb (length file) 0) (refuse fault.file_length 0)
    (pick (eqb (length file % 4) 0)
    (and (heads file 0 5) (and (heads file 5 (total_of file)) (walk_of file)))
    (refuse fault.file_length 0))

-- ---- the promise

pub record Checks (file : List ℕ) (r : Answer) : Type 0 where
  pub answer : r ≡ check_of file
  pub numbers : numbers_of r ≡ numbers_of (check_of file)

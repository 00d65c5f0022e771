-- The header: 3F3, no library, T hunks from 0 to T - 1, and a size word for each; with the faults of each of these
-- words (docs/FORMAT.md, "The program file" and "Numbers").
use Rattle.std.specs.Prelude.{Result, Ok, Err, ℕ, zero, suc, ◌+◌, ◌*◌, List, ltb, leb, eqb, length}
use Rattle.program.specs.Types as type
use Rattle.words.specs.Word.{word_at}
use Rattle.program.specs.Spaces.{Space, space_in, space_fault}
use Rattle.answers.specs.Numbers as fault
use Rattle.answers.specs.Tests.{pick, must}
use Rattle.answers.specs.Refusals.{refusal}
use Rattle.answers.specs.declared.Refusal.{Refusal}

-- the number of hunks
abbrev pub total_of : List ℕ → ℕ
total_of file = word_at file 8

-- what the header says of hunk i: the space, its size in words, its kind of memory
unfoldable pub space_of : List ℕ → ℕ → Space
space_of file i = space_in (word_at file (20 + 4 * i))

abbrev pub size_of : List ℕ → ℕ → ℕ
size_of file i = (space_of file i).size

abbrev pub memory_of : List ℕ → ℕ → ℕ
memory_of file i = (space_of file i).memory

-- where the hunks begin
abbrev pub start_at : List ℕ → ℕ
start_at file = 20 + 4 * total_of file

-- the fault of the header's word i where the file has t hunks, or 0
abbrev pub head_fault : ℕ → ℕ → ℕ → ℕ
head_fault t i w =
    pick (eqb i 0) (must (eqb w type.header) fault.header_word)
    (pick (eqb i 1) (must (eqb w 0) fault.library)
    (pick (eqb i 2) (pick (eqb w 0) fault.header_word (must (leb w type.most_hunks) fault.header_word))
    (pick (eqb i 3) (must (eqb w 0) fault.header_word)
    (pick (eqb i 4) (must (eqb (w + 1) t) fault.header_word)
    (space_fault (space_in w))))))

-- a number other than 0 fails there; else it goes on
abbrev pub judge : ℕ → ℕ → Result Unit Refusal → Result Unit Refusal
judge zero at h = h
judge (suc e) at h = Err (refusal (suc e) at)

-- n words of the header, from word i on
unfoldable pub heads : List ℕ → ℕ → ℕ → Result Unit Refusal
heads file i zero = Ok tt
heads file i (suc n) =
    pick (ltb (length file) (4 * i + 4)) (Err (refusal fault.early_end (length file)))
    (judge (head_fault (total_of file) i (word_at file (4 * i))) (4 * i) (heads file (i + 1) n))

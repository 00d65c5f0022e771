-- What the parts of the code ask and tell each other: the passes, and the core of a load and of a move, which is lent a
-- number of records and hands their numbers back. Nothing that a call promises is said here; that is Calls.
use Rattle.answers.specs.declared.Refusal.{Refusal}
use Rattle.loader.specs.Bases.{bases_fault}
use Rattle.std.specs.Prelude.{Result, Ok, Err, Option, None, Some, ◌≡◌, ℕ, ◌+◌, ◌*◌, ◌%◌, ◌<◌, ◌≤◌, List, [], ◌∷◌, ◌++◌}
use Rattle.std.specs.Prelude.{length, take, drop, replicate}
use Rattle.words.specs.Word.{set_word}
use Rattle.program.specs.Types as type
use Rattle.program.specs.declared.act.Act.{Act}
use Rattle.program.specs.declared.act.Act.TheVariants.{Quiet, Body, Store, Add}
use Rattle.program.specs.Check.{Answer}
use Rattle.program.specs.Header.{total_of}
use Rattle.program.specs.Acts.{acts_of}
use Rattle.program.specs.Cursors.{HeaderFits}
use Rattle.loader.specs.declared.calls.Outcome.{Outcome}
use Rattle.loader.specs.Memory.{loaded_of, load_of, move_of}
use Rattle.loader.specs.Table.{record_length, table_room, with_records}
use Rattle.loader.specs.Calls.{load_answer, move_answer, effect}

-- ---- the passes

-- what an accepted file has
pub record AcceptedFile (file : List ℕ) (t n : ℕ) : Type 0 where
  pub header : HeaderFits file
  pub whole : length file % 4 ≡ 0
  pub hunks : t ≡ total_of file
  pub bytes : n ≡ loaded_of file

-- what an act asks lies within n bytes and t hunks
abbrev pub ActFits : ℕ → ℕ → Act → Type 0
ActFits n t Quiet = Unit
ActFits n t (Body h p k) = (h < t) × (p < 4294967296)
ActFits n t (Store p w) = p + 4 ≤ n
ActFits n t (Add p k b) = (p + 4 ≤ n) × (k < t)

-- memory with words stored one after the other, the first at p
unfoldable pub with_words : List ℕ → ℕ → List ℕ → List ℕ
with_words m p [] = m
with_words m p (w ∷ ws) = with_words (set_word m p w) (p + 4) ws

-- ---- the core

-- an accepted file, with so many bases, one for each hunk, and so many bytes, room for all of it
pub record Roomy (file : List ℕ) (bases memory : ℕ) : Type 0 where
  pub header : HeaderFits file
  pub whole : length file % 4 ≡ 0
  pub counted : total_of file ≡ bases
  pub fits : loaded_of file ≤ memory

-- the answer is a, and a work area of n bytes comes back all 0
pub record Cleanly (a : Answer) (n : ℕ) (r : Answer) (work' : List ℕ) : Type 0 where
  pub answer : r ≡ a
  pub clean : work' ≡ replicate n 0

-- memory and numbers are these
pub record Writes (m n memory' numbers' : List ℕ) : Type 0 where
  pub memory : memory' ≡ m
  pub numbers : numbers' ≡ n

-- the records at the bases, in room for 64; zeros where refused
abbrev pub handed : List ℕ → List ℕ → Answer → List ℕ
handed file bases a =
    effect a (with_records file bases (replicate table_room 0) (acts_of file)) (replicate table_room 0)

-- a call brings a program to bases: from no old ones, as a load, or from old ones, as a move

-- tests one after the other
abbrev pub and_then : Result Unit Refusal → Result Unit Refusal → Result Unit Refusal
and_then (Ok u) h = h
and_then (Err r) h = Err r

-- the test of its lists of bases
abbrev pub lists_fault : List ℕ → Option (List ℕ) → List ℕ → Result Unit Refusal
lists_fault file None to = bases_fault file to 0
lists_fault file (Some old) to = and_then (bases_fault file old 0) (bases_fault file to (total_of file))

-- what it answers
abbrev pub answer_of : List ℕ → Option (List ℕ) → List ℕ → ℕ → ℕ → ℕ → Answer
answer_of file None to memory records work = load_answer file to memory records work
answer_of file (Some old) to memory records work = move_answer file old to memory records work

-- what it makes of memory
abbrev pub placed_of : List ℕ → Option (List ℕ) → List ℕ → List ℕ → List ℕ
placed_of file None to m = load_of file to m
placed_of file (Some old) to m = move_of file old to m

-- there are as many old bases as new ones
abbrev pub SameLength : Option (List ℕ) → List ℕ → Type 0
SameLength None to = Unit
SameLength (Some old) to = length old ≡ length to

pub record Places (file : List ℕ) (old : Option (List ℕ)) (to memory work : List ℕ) (records : ℕ)
    (o : Outcome) (memory' work' : List ℕ) : Type 0 where
  pub answer : o.answer ≡ answer_of file old to (length memory) records (length work)
  pub placed : memory' ≡ effect o.answer (placed_of file old to memory) memory
  pub numbers : o.records ≡ handed file to o.answer
  pub clean : work' ≡ replicate (length work) 0

abbrev pub LoadsCore : (file bases memory work : List ℕ) → ℕ → Outcome → (memory' work' : List ℕ) → Type 0
LoadsCore file bases memory work records o memory' work' =
    Places file None bases memory work records o memory' work'

abbrev pub MovesCore : (file old new memory work : List ℕ) → ℕ → Outcome → (memory' work' : List ℕ) → Type 0
MovesCore file old new memory work records o memory' work' =
    Places file (Some old) new memory work records o memory' work'

-- an accepted outcome's records have room in a table of so many numbers
abbrev pub FillsBy : Answer → ℕ → Type 0
FillsBy (Ok v) room = (v.hunks ≤ type.most_hunks) × (record_length * v.hunks ≤ room)
FillsBy (Err r) room = Unit

pub record Fills (o : Outcome) (room : ℕ) : Type 0 where
  pub fills : FillsBy o.answer room
  pub whole : length o.records ≡ table_room

-- and are written to its front
abbrev pub filled_by : Answer → List ℕ → List ℕ → List ℕ
filled_by (Ok v) numbers table = take (record_length * v.hunks) numbers ++ drop (record_length * v.hunks) table
filled_by (Err r) numbers table = table

abbrev pub filled : Outcome → List ℕ → List ℕ
filled o table = filled_by o.answer o.records table

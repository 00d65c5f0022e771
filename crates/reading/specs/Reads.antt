-- A read: the path's lookup, the tests of the file's blocks, and then its bytes from an offset on (docs/FORMAT.md,
-- "Paths and reads"). Nothing is copied before all is tested; a directory is no file.
use Rattle.answers.specs.declared.Refusal.{Refusal}
use Rattle.std.specs.Prelude.{ℕ, ◌-◌, ◌≡◌, List, [], ◌∷◌, ◌++◌, length, Result, Ok, Err}
use Rattle.answers.specs.Numbers as fault
use Rattle.answers.specs.Refusals.{refusal}
use Rattle.answers.specs.Answers.{AnswerNumbers, accepted_as, refused_as}
use Rattle.volume.specs.declared.disk.Disk.{Disk}
use Rattle.lookup.specs.declared.find.Found.{Found}
use Rattle.lookup.specs.declared.find.Found.TheVariants as found
use Rattle.lookup.specs.Paths.{components}
use Rattle.lookup.specs.Lookup.{find_refusals, find_of}
use Rattle.reading.specs.FileTests.{blocks_fault}
use Rattle.reading.specs.Bytes.{file_bytes, part, filled_by}

-- an answer's numbers; its value is how many bytes were copied
abbrev pub numbers_of : Result ℕ Refusal → AnswerNumbers ℕ
numbers_of (Ok n) = accepted_as n
numbers_of (Err r) = refused_as 0 r

-- the numbers of all refusals of a read: the lookup's, and those of the file's own blocks
abbrev pub read_refusals : List ℕ
read_refusals = find_refusals ++ (fault.file_layout ∷ fault.data_layout ∷ [])

abbrev pub refuse : ℕ → ℕ → Result ℕ Refusal
refuse v k = Err (refusal v k)

-- the number of a path's last component; 0 for the empty path
abbrev pub last_component : List ℕ → ℕ
last_component path = length (components path) - 1

-- ---- the answer

-- of file k at offset o, into room for n bytes
abbrev pub tested : Disk → List ℕ → ℕ → ℕ → ℕ → Result Unit Refusal → Result ℕ Refusal
tested d s k o n (Ok _) = Ok (length (part (file_bytes d s k) o n))
tested d s k o n (Err r) = Err r

abbrev pub reads : Disk → List ℕ → List ℕ → ℕ → ℕ → Result Found Refusal → Result ℕ Refusal
reads d s path o n (Ok (found.File k z c)) = tested d s k o n (blocks_fault d s k)
reads d s path o n (Ok (found.Directory k c)) = refuse fault.wrong_kind (last_component path)
reads d s path o n (Err r) = Err r

unfoldable pub read_of : Disk → List ℕ → List ℕ → ℕ → ℕ → Result ℕ Refusal
read_of d s path o n = reads d s path o n (find_of d s path)

-- ---- the output

-- the bytes of what was found
abbrev pub bytes_of : Disk → List ℕ → Result Found Refusal → List ℕ
bytes_of d s (Ok (found.File k z c)) = file_bytes d s k
bytes_of d s (Ok (found.Directory k c)) = []
bytes_of d s (Err r) = []

-- refused, it stays
abbrev pub output_after : Disk → List ℕ → List ℕ → ℕ → List ℕ → Result ℕ Refusal → List ℕ
output_after d s path o output (Ok n) = filled_by (bytes_of d s (find_of d s path)) o output
output_after d s path o output (Err r) = output

-- ---- the promise: the answer is said also by its numbers

pub record Reads (d : Disk) (s path : List ℕ) (o : ℕ) (output : List ℕ) (r : Result ℕ Refusal) (output' : List ℕ)
    : Type 0 where
  pub answer : r ≡ read_of d s path o (length output)
  pub numbers : numbers_of r ≡ numbers_of (read_of d s path o (length output))
  pub left : output' ≡ output_after d s path o output r

-- A lookup: image length, the path's form, boot tag, the root up to its name; then component by component, each in
-- the directory that the one before it led to (docs/FORMAT.md, "Paths and reads" and "Numbers").
use Rattle.answers.specs.declared.Refusal.{Refusal}
use Rattle.std.specs.Prelude.{ℕ, ◌+◌, ◌≡◌, List, [], ◌∷◌, eqb, length, Result, Ok, Err, Some, None}
use Rattle.answers.specs.Answers.{AnswerNumbers, accepted_as, refused_as}
use Rattle.answers.specs.Numbers as fault
use Rattle.answers.specs.Tests.{pick}
use Rattle.answers.specs.Refusals.{refusal}
use Rattle.words.specs.Word.{word_at}
use Rattle.volume.specs.declared.disk.Disk.{Disk}
use Rattle.volume.specs.Disks.{image_bytes, tag_of, root_of}
use Rattle.volume.specs.Blocks.{directory, directory_kind, file_kind}
use Rattle.volume.specs.Files.{size_of}
use Rattle.volume.specs.Rules.{root_fault}
use Rattle.lookup.specs.declared.find.Found.{Found}
use Rattle.lookup.specs.declared.find.Found.TheVariants.{Directory, File}
use Rattle.lookup.specs.Paths.{components, path_fault}
use Rattle.lookup.specs.Search.{search_of, Step}

-- the values of an answer
pub record Values : Type 0 where
  pub kind : ℕ
  pub key : ℕ
  pub size : ℕ
  pub compared : ℕ

-- an answer's numbers
abbrev pub numbers_of : Result Found Refusal → AnswerNumbers Values
numbers_of (Ok (Directory k n)) = accepted_as (record { kind = directory_kind; key = k; size = 0; compared = n })
numbers_of (Ok (File k z n)) = accepted_as (record { kind = file_kind; key = k; size = z; compared = n })
numbers_of (Err r) = refused_as (record { kind = 0; key = 0; size = 0; compared = 0 }) r

-- the numbers of all refusals of a lookup
abbrev pub find_refusals : List ℕ
find_refusals =
    fault.image_length ∷ fault.boot_tag ∷ fault.root_words ∷ fault.bad_key ∷ fault.claimed_twice ∷ fault.block_sum
    ∷ fault.block_type ∷ fault.link ∷ fault.wrong_ties ∷ fault.bad_name ∷ fault.wrong_slot ∷ fault.path_form
    ∷ fault.not_found ∷ fault.wrong_kind ∷ []

abbrev pub refuse : ℕ → ℕ → Result Found Refusal
refuse v at = Err (refusal v at)

-- component i leads to the file k: it is found if no component is left, else it is used as a directory
abbrev pub file_at : List ℕ → ℕ → ℕ → List (List ℕ) → ℕ → Result Found Refusal
file_at s i n [] k = Ok (File k (size_of s k) n)
file_at s i n (c ∷ cs) k = refuse fault.wrong_kind i

-- what component i leads to, n entries compared before it, the components cs after it; `below` goes on in a directory
abbrev pub stepped : List ℕ → ℕ → ℕ → List (List ℕ) → (ℕ → ℕ → Result Found Refusal) → Step → Result Found Refusal
stepped s i n cs below (Ok None) = refuse fault.not_found i
stepped s i n cs below (Err r) = Err r
stepped s i n cs below (Ok (Some h)) =
    pick (directory s h.key) (below h.key (n + h.compared)) (file_at s i (n + h.compared) cs h.key)

-- the components from number i on, from directory t, n entries compared before
unfoldable pub lookup_from : Disk → List ℕ → ℕ → ℕ → ℕ → List (List ℕ) → Result Found Refusal
lookup_from d s t i n [] = Ok (Directory t n)
lookup_from d s t i n (c ∷ cs) = stepped s i n cs (λ k m. lookup_from d s k (i + 1) m cs) (search_of d s t c)

-- the root's tests, then all components
unfoldable pub from_root : Disk → List ℕ → List ℕ → Result Found Refusal
from_root d s path =
    pick (eqb (root_fault d s) 0) (lookup_from d s (root_of d) 0 0 (components path))
    (refuse (root_fault d s) (root_of d))

-- what follows tests
abbrev pub and : Result Unit Refusal → Result Found Refusal → Result Found Refusal
and (Ok u) a = a
and (Err r) a = Err r

unfoldable pub find_of : Disk → List ℕ → List ℕ → Result Found Refusal
find_of d s path =
    pick (eqb (length s) (image_bytes d))
    (and (path_fault path) (pick (eqb (word_at s 0) (tag_of d)) (from_root d s path) (refuse fault.boot_tag 0)))
    (refuse fault.image_length 0)

-- ---- the promise

pub record Finds (d : Disk) (s path : List ℕ) (r : Result Found Refusal) : Type 0 where
  pub answer : r ≡ find_of d s path
  pub numbers : numbers_of r ≡ numbers_of (find_of d s path)

-- What an audit answers, and what it leaves in the claim area (docs/FORMAT.md, "Order of the walk" and "Numbers"):
-- the image's length, the claim area, the boot tag, then the walk from the root, and the bitmap last.
use Rattle.std.specs.Prelude.{ℕ, ◌+◌, ◌-◌, ◌≡◌, List, [], ◌∷◌, ◌++◌, eqb, ltb, length, replicate}
use Rattle.std.specs.Prelude.{Result, Ok, Err}
use Rattle.answers.specs.declared.Refusal.{Refusal}
use Rattle.answers.specs.Numbers as fault
use Rattle.answers.specs.Tests.{pick}
use Rattle.answers.specs.Refusals.{refusal}
use Rattle.answers.specs.Answers.{AnswerNumbers, accepted_as, refused_as}
use Rattle.words.specs.Word.{word_at}
use Rattle.reach.specs.Walk.{Outcome, done, refused}
use Rattle.volume.specs.declared.disk.Disk.{Disk}
use Rattle.volume.specs.Disks.{image_bytes, claim_bytes, tag_of, root_of}
use Rattle.volume.specs.Blocks.{word_of}
use Rattle.walk.specs.declared.Counts.{Counts}
use Rattle.walk.specs.Nodes.{walk_of}
use Rattle.audit.specs.declared.audit.Report.{Report}
use Rattle.audit.specs.Bits.{bits_of}

abbrev pub nothing_to_report : Report
nothing_to_report = record { directories = 0; files = 0; lists = 0; blocks = 0; used = 0; free = 0 }

-- an answer's numbers; its values are the report
abbrev pub numbers_of : Result Report Refusal → AnswerNumbers Report
numbers_of (Ok r) = accepted_as r
numbers_of (Err r) = refused_as nothing_to_report r

-- the numbers of the walk's refusals
abbrev pub walk_refusals : List ℕ
walk_refusals =
    fault.root_words ∷ fault.bad_key ∷ fault.claimed_twice ∷ fault.block_sum ∷ fault.block_type ∷ fault.link
    ∷ fault.wrong_ties ∷ fault.bad_name ∷ fault.wrong_slot ∷ fault.double_name ∷ fault.file_layout ∷ fault.data_layout
    ∷ fault.bitmap_words ∷ []

-- and of all that an audit gives
abbrev pub audit_refusals : List ℕ
audit_refusals = fault.image_length ∷ fault.claim_area ∷ fault.boot_tag ∷ (walk_refusals ++ (fault.wrong_bit ∷ []))

abbrev pub refuse : ℕ → ℕ → Result Report Refusal
refuse v k = Err (refusal v k)

-- used: what is counted, the root and the bitmap block
abbrev pub report_of : Counts → ℕ → Report
report_of c free =
    record {
      directories = c.directories;
      files = c.files;
      lists = c.lists;
      blocks = c.blocks;
      used = c.directories + c.files + c.lists + c.blocks + 2;
      free = free;
    }

-- ---- the answer

abbrev pub mapped : Counts → Result ℕ Refusal → Result Report Refusal
mapped c (Ok free) = Ok (report_of c free)
mapped c (Err r) = Err r

-- the bitmap, once the walk is through
abbrev pub walked : Disk → List ℕ → Outcome Counts → Result Report Refusal
walked d s (done claims c) = mapped c (bits_of d s (word_of s (root_of d) 79) claims)
walked d s (refused v k) = refuse v k

-- of a claim area of n bytes
unfoldable pub audit_of : Disk → List ℕ → ℕ → Result Report Refusal
audit_of d s n =
    pick (eqb (length s) (image_bytes d))
    (pick (ltb n (claim_bytes d)) (refuse fault.claim_area 0)
    (pick (eqb (word_at s 0) (tag_of d)) (walked d s (walk_of d s)) (refuse fault.boot_tag 0)))
    (refuse fault.image_length 0)

-- ---- the claim area

abbrev pub claims_of : Outcome Counts → List ℕ
claims_of (done claims c) = claims
claims_of (refused v k) = []

-- accepted: the claims of the walk, and 0 after them; refused: all 0
abbrev pub claim_after : Disk → List ℕ → Result Report Refusal → ℕ → List ℕ
claim_after d s (Ok r) n = claims_of (walk_of d s) ++ replicate (n - claim_bytes d) 0
claim_after d s (Err r) n = replicate n 0

-- ---- the promise

-- the answer is said also by its numbers
pub record Audits (d : Disk) (s : List ℕ) (n : ℕ) (r : Result Report Refusal) (claim' : List ℕ) : Type 0 where
  pub answer : r ≡ audit_of d s n
  pub numbers : numbers_of r ≡ numbers_of (audit_of d s n)
  pub claim : claim' ≡ claim_after d s r n

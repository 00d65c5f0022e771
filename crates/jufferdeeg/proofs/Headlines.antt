-- The headline theorems side by side, each cited from the crate that proves it. What the names in them mean is in the
-- specs/ of that crate. Assumes nothing.
use Prim.Native.Nat.{ℕ, ◌+◌, ◌*◌, ◌≤◌, ◌<◌}
use mathlib.Core.Path.{◌≡◌, sym, ◌∙◌}
use mathlib.Core.Logic.{◌≢◌, ◌⊎◌, ◌↔◌}
use mathlib.Core.Bool.{false}
use mathlib.Core.List.{List, [], ◌∷◌, ◌++◌}
use lib.ListN.{length, get_or, take, drop, replicate}
use Rattle.std.specs.Prelude.{Result, Ok, Err}
use Rattle.answers.specs.Numbers as fault
use Rattle.answers.specs.Members.{◌∈◌}
use Rattle.answers.specs.Refusals.{refusal}
use Rattle.answers.specs.declared.Refusal.{Refusal}
use Rattle.answers.specs.Tests.{pick}
use Rattle.reach.specs.References.{Reached}
use Rattle.words.specs.Word.{Bytes, word_at}
use Rattle.volume.specs.declared.disk.Disk.{Disk}
use Rattle.volume.specs.Disks.{Exists, tag_of, root_of, claim_bytes, chain_limit, disk_of, Fits, Unfit, NoTag}
use Rattle.volume.specs.Blocks.{directory}
use Rattle.volume.specs.Files.{size_of}
use Rattle.volume.specs.References.{to, entry, references}
use Rattle.volume.specs.Names.{fold_of, folded, slot_of}
use Rattle.volume.specs.Law.{Tree, Valid, Volume, IsVolume}
use Rattle.volume.proofs.Disks as disks
use Rattle.volume.proofs.Names as names
use Rattle.volume.specs.Numerals.{NumeralsHold}
use Rattle.volume.proofs.Numerals as numbers
use Rattle.walk.specs.Refusals.{Cause}
use Rattle.walk.proofs.Broken as broken
use Rattle.volume.specs.Stars.{stars, Hold}
use Rattle.volume.proofs.Stars as starred
use Rattle.audit.specs.declared.audit.Report.{Report}
use Rattle.audit.specs.Audits as audit
use Rattle.audit.specs.Verdicts.{Claimed, Reported, FirstWrong, test_of, Says}
use Rattle.audit.proofs.Accepting as accepting
use Rattle.audit.proofs.Refusing as refusing
use Rattle.lookup.specs.declared.find.Found.{Found}
use Rattle.lookup.specs.declared.find.Found.TheVariants as found
use Rattle.lookup.specs.Paths.{longest_path, components}
use Rattle.lookup.specs.Lookup as lookup
use Rattle.lookup.specs.Trails.{First, Trail, Lies, path_of}
use Rattle.lookup.specs.Verdicts as lookups
use Rattle.lookup.proofs.Deciding as finding
use Rattle.lookup.proofs.Refusing as missing
use Rattle.lookup.proofs.Compared as counting
use Rattle.lookup.proofs.Bridge as bridge
use Rattle.reading.specs.Bytes.{file_bytes}
use Rattle.reading.specs.FileTests.{blocks_fault}
use Rattle.reading.specs.Reads as read
use Rattle.reading.specs.Outcomes as outcomes
use Rattle.reading.proofs.Passing as passing
use Rattle.reading.proofs.Answers as answers
use Rattle.reading.proofs.Refusing as unread
use Rattle.reading.proofs.Readings as readings
use Rattle.reading.proofs.OnTrees as reads
use Rattle.program.specs.Check.{Answer, accepted}
use Rattle.program.specs.Page as contents
use Rattle.program.specs.Check.{check_refusals, check_of, numbers_of}
use Rattle.program.specs.Verdicts as programs
use Rattle.program.proofs.Unique as unique
use Rattle.program.proofs.Pages as pages
use Rattle.program.proofs.Refusing as faults
use Rattle.loader.specs.Calls.{call_refusals, load_answer, move_answer}
use Rattle.loader.specs.Memory.{amount_of, moved}
use Rattle.loader.specs.Pages.{image_of, file_targets, Named, Adds, Outside, with_hunks, LoadedPage, MovedPage}
use Rattle.loader.specs.Verdicts.{Takes, CallWhy}
use Rattle.loader.proofs.OneHunk as targets
use Rattle.loader.proofs.PageVerdicts as verdicts
use Rattle.hunks.specs.declared.Hunk.{Hunk}
use Rattle.hunks.specs.Calls.{Loads, Moves}
use Rattle.loader.specs.Moving.{SameRoom, LoadsAt}
use Rattle.hunks.specs.Pages.{page_records}
use Rattle.hunks.proofs.PageCalls as calls
use Rattle.hunks.proofs.Moving as moving
use Rattle.hunks.proofs.Deciding as deciding
use Rattle.jufferdeeg.specs.declared.volumes.AuditNumbers.{AuditNumbers}
use Rattle.jufferdeeg.specs.declared.volumes.FindNumbers.{FindNumbers}
use Rattle.jufferdeeg.specs.declared.volumes.ReadNumbers.{ReadNumbers}
use Rattle.jufferdeeg.specs.declared.programs.ProgramNumbers.{ProgramNumbers}
use Rattle.jufferdeeg.specs.Volumes.{find_in_image, AuditsImage, ReadsImage}
use Rattle.jufferdeeg.specs.Programs.{check_numbers, LoadsNumbers, MovesNumbers}
use Rattle.jufferdeeg.specs.Reasons.{sentence_of, Reasons}
use Rattle.jufferdeeg.proofs.Seen as seen
use Rattle.jufferdeeg.proofs.SeenMoving as seen-moving
use Rattle.jufferdeeg.proofs.Spoken as spoken

-- ---- the audit of an image s with a claim area of n bytes

module _ (d : Disk) (s : List ℕ) (n : ℕ) where
  -- accepted if and only if a volume
  pub accepted_exactly : claim_bytes d ≤ n → ((r : Report) × (audit.audit_of d s n ≡ Ok r)) ↔ Volume d s
  accepted_exactly h = accepting.accepted_exactly d s n h

  -- the claim area says which blocks are reached, and the report counts what it says
  pub accepted_claims : (r : Result Report Refusal) (claim : List ℕ) → audit.Audits d s n r claim → (p : Report)
      → r ≡ Ok p → Claimed d s n claim
  accepted_claims r claim a p e = accepting.accepted_claims d s n r claim a p e

  pub accepted_report : (p : Report) → audit.audit_of d s n ≡ Ok p → Reported d s p
  accepted_report p e = accepting.accepted_report d s n p e

  -- each refusal if and only if its test says so
  pub audit_refused_exactly : (v k : ℕ) → (audit.audit_of d s n ≡ audit.refuse v k) ↔ Says d s n v k (test_of v)
  audit_refused_exactly v k = refusing.refused_exactly d s n v k

  -- 4 to 16: which field of the law the block breaks, a case for each number
  pub audit_refused_cause : (v k : ℕ) → v ∈ audit.walk_refusals → audit.audit_of d s n ≡ audit.refuse v k
      → Cause d s v k
  audit_refused_cause v k h = refusing.refused_cause d s n v k h

  -- 17: all but the bits is as the law says, and k is the lowest block whose bit is wrong
  pub audit_refused_17 : (k : ℕ)
      → (audit.audit_of d s n ≡ audit.refuse fault.wrong_bit k)
      ↔ ((claim_bytes d ≤ n) × Tree d s × Valid d s × FirstWrong d s k)
  audit_refused_17 k = refusing.refused_17 d s n k

  -- a refused audit clears the claim area
  pub audit_refused_claims : (r : Result Report Refusal) (claim : List ℕ) → audit.Audits d s n r claim → (x : Refusal)
      → r ≡ Err x → claim ≡ replicate n 0
  audit_refused_claims r claim a x e = accepting.refused_claims d s n r claim a x e

  pub audit_determined : (r r' : Result Report Refusal) (c c' : List ℕ) → audit.Audits d s n r c
      → audit.Audits d s n r' c'
      → (audit.numbers_of r ≡ audit.numbers_of r') × (r ≡ r') × (c ≡ c')
  audit_determined r r' c c' a a' = accepting.audit_determined d s n r r' c c' a a'

-- a call that names b takes an image for the disk `disk_of`: the one that fits and whose boot tag the image has
pub disk_is : (b : ℕ) (s : List ℕ) (d : Disk) → Fits b s d → word_at s 0 ≡ tag_of d → disk_of b s ≡ d
disk_is = disks.disk_is

-- it has as many blocks as any disk that fits
pub disk_size : (b : ℕ) (s : List ℕ) (d : Disk) → Fits b s d → (disk_of b s).blocks ≡ d.blocks
disk_size = disks.disk_size

-- one statement for all disks: accepted if and only if a volume of a disk that exists and is named; 1 if and only if no
-- disk fits; 3 if and only if one does and the tag is that of none
module _ (b : ℕ) (s : List ℕ) (n : ℕ) where
  pub accepted_volume : claim_bytes (disk_of b s) ≤ n
      → ((r : Report) × (audit.audit_of (disk_of b s) s n ≡ Ok r)) ↔ IsVolume b s
  accepted_volume h = accepting.accepted_volume b s n h

  pub audit_refused_unfit : (k : ℕ)
      → (audit.audit_of (disk_of b s) s n ≡ audit.refuse fault.image_length k) ↔ ((k ≡ 0) × Unfit b s)
  audit_refused_unfit k = refusing.refused_unfit b s n k

  pub audit_refused_tag : (k : ℕ)
      → (audit.audit_of (disk_of b s) s n ≡ audit.refuse fault.boot_tag k)
      ↔ ((k ≡ 0) × Fits b s (disk_of b s) × (claim_bytes (disk_of b s) ≤ n) × NoTag s)
  audit_refused_tag k = refusing.refused_tag b s n k

-- what such a cause says holds of no volume
module _ (d : Disk) (s : List ℕ) where
  pub cause_breaks : Volume d s → (v k : ℕ) → Cause d s v k → ⊥
  cause_breaks w v k c = broken.cause_breaks d s w.tree w.valid v k c

-- ---- a path, and a read of it at offset o

module _ (d : Disk) (s path : List ℕ) where
  -- a directory is found if and only if each component is the first equal name of a directory, in the one before it;
  -- a file if and only if the last component is one there
  pub directory_exactly : (k n : ℕ)
      → (lookup.find_of d s path ≡ Ok (found.Directory k n))
      ↔ (lookups.Opened d s path × Trail d s (root_of d) (components path) k n)
  directory_exactly k n = missing.directory_exactly d s path k n

  pub file_exactly : (k z n : ℕ) → (lookup.find_of d s path ≡ Ok (found.File k z n)) ↔ lookups.IsFile d s path k z n
  file_exactly k z n = missing.file_exactly d s path k z n

  -- a path compares at most as many entries for each of its components as a chain may have
  pub found_few : (k z n : ℕ)
      → (lookup.find_of d s path ≡ Ok (found.Directory k n)) ⊎ (lookup.find_of d s path ≡ Ok (found.File k z n))
      → n ≤ length (components path) * chain_limit d
  found_few k z n e = counting.found_few d s path k z n e

  -- 19 if and only if the chain has ended and no entry on it has the name; any refusal if and only if `Refuses` holds
  pub missing_exactly : (i : ℕ) → (lookup.find_of d s path ≡ lookup.refuse fault.not_found i)
      ↔ lookups.Missing d s path i
  missing_exactly i = missing.missing_exactly d s path i

  pub find_refused_exactly : (v k : ℕ) → (lookup.find_of d s path ≡ lookup.refuse v k) ↔ lookups.Refuses d s path v k
  find_refused_exactly v k = missing.refused_exactly d s path v k

  pub find_determined : (r r' : Result Found Refusal) → lookup.Finds d s path r → lookup.Finds d s path r'
      → (lookup.numbers_of r ≡ lookup.numbers_of r') × (r ≡ r')
  find_determined r r' a a' = finding.find_determined d s path r r' a a'

  -- bytes if and only if the path leads to a whole file; then the output holds its bytes from the offset on, and
  -- after them what it held; a refusal if and only if `Refuses` holds
  pub read_exactly : (o n m : ℕ) → (read.read_of d s path o n ≡ Ok m) ↔ outcomes.Gives d s path o n m
  read_exactly o n m = answers.read_exactly d s path o n m

  pub read_output : (o m k z c : ℕ) (output output' : List ℕ) → read.Reads d s path o output (Ok m) output'
      → lookup.find_of d s path ≡ Ok (found.File k z c) → outcomes.Filled (file_bytes d s k) o output m output'
  read_output o m k z c output output' r e = answers.read_output d s path o m k z c output output' r e

  pub read_refused_exactly : (o n v k : ℕ)
      → (read.read_of d s path o n ≡ read.refuse v k) ↔ outcomes.Refuses d s path v k
  read_refused_exactly o n v k = unread.refused_exactly d s path o n v k

  pub read_determined : (o : ℕ) (output : List ℕ) (r r' : Result ℕ Refusal) (a a' : List ℕ)
      → read.Reads d s path o output r a
      → read.Reads d s path o output r' a' → (read.numbers_of r ≡ read.numbers_of r') × (r ≡ r') × (a ≡ a')
  read_determined o output r r' a a' h h' = readings.read_determined d s path o output r r' a a' h h'

  -- in a tree a found file is read whole
  pub tree_read_whole : Tree d s → (k z c : ℕ) → lookup.find_of d s path ≡ Ok (found.File k z c) → (output : List ℕ)
      → z ≤ length output → (r : Result ℕ Refusal) (output' : List ℕ) → read.Reads d s path 0 output r output'
      → (r ≡ Ok z) × (length (file_bytes d s k) ≡ z) × (output' ≡ file_bytes d s k ++ drop z output)
  tree_read_whole v k z c e output h r output' w = reads.tree_read_whole d s v path k z c e output output' r h w

module _ (d : Disk) (s : List ℕ) where
  -- a component that leads to the entry at place p has compared p + 1, at most as many as a chain may have
  pub compared_most : (t : ℕ) (name : List ℕ) (p : ℕ) → First d s t name p → p + 1 ≤ chain_limit d
  compared_most t name p f = counting.first_few d s t name p f

  -- the tests of a file's blocks pass if and only if it is whole: as the law says, with all of its blocks
  pub tested_exactly : (h : ℕ) → (blocks_fault d s h ≡ Ok tt) ↔ outcomes.FileWhole d s h
  tested_exactly h = passing.tested_exactly d s h

  -- in a tree every reached entry lies below the root by the names of directories; it is found by its path, and a
  -- file is read whole
  pub reached_lies : Tree d s → (k : ℕ) → Reached (references d s) (to entry k) → Lies s (root_of d) k
  reached_lies v k r = bridge.reached_lies d s v k r

  pub reached_found : Tree d s → (k : ℕ) (h : Lies s (root_of d) k) → length (path_of s (root_of d) k h) ≤ longest_path
      → (n : ℕ) × (lookup.find_of d s (path_of s (root_of d) k h) ≡ pick (directory s k) (Ok (found.Directory k n))
      (Ok (found.File k (size_of s k) n)))
  reached_found v k h l = bridge.reached_found d s v k h l

  pub reached_read : Tree d s → (k : ℕ) (h : Lies s (root_of d) k) → directory s k ≡ false
      → length (path_of s (root_of d) k h) ≤ longest_path → (output output' : List ℕ) (r : Result ℕ Refusal)
      → size_of s k ≤ length output → read.Reads d s (path_of s (root_of d) k h) 0 output r output'
      → (r ≡ Ok (size_of s k)) × (length (file_bytes d s k) ≡ size_of s k)
      × (output' ≡ file_bytes d s k ++ drop (size_of s k) output)
  reached_read v k h e l output output' r m q = reads.reached_read d s v k h e l output output' r m q

-- 1 and 3 of a lookup and of a read
module _ (b : ℕ) (s path : List ℕ) (k : ℕ) where
  pub find_refused_unfit : (lookup.find_of (disk_of b s) s path ≡ lookup.refuse fault.image_length k)
      ↔ ((k ≡ 0) × Unfit b s)
  find_refused_unfit = missing.refused_unfit b s path k

  pub find_refused_tag : (lookup.find_of (disk_of b s) s path ≡ lookup.refuse fault.boot_tag k)
      ↔ ((k ≡ 0) × Fits b s (disk_of b s) × lookups.GoodForm path × NoTag s)
  find_refused_tag = missing.refused_tag b s path k

  pub read_refused_unfit : (o n : ℕ)
      → (read.read_of (disk_of b s) s path o n ≡ read.refuse fault.image_length k) ↔ ((k ≡ 0) × Unfit b s)
  read_refused_unfit o n = unread.refused_unfit b s path o n k

  pub read_refused_tag : (o n : ℕ)
      → (read.read_of (disk_of b s) s path o n ≡ read.refuse fault.boot_tag k)
      ↔ ((k ≡ 0) × Fits b s (disk_of b s) × lookups.GoodForm path × NoTag s)
  read_refused_tag o n = unread.refused_tag b s path o n k

-- on every kind of disk, folding twice is folding once, and equal folded names have equal slots
module _ (d : Disk) where
  pub fold_twice : (b : ℕ) → fold_of d (fold_of d b) ≡ fold_of d b
  fold_twice b = names.fold_twice d b

  pub slot_same : (xs ys : List ℕ) → folded d xs ≡ folded d ys → slot_of d xs ≡ slot_of d ys
  slot_same xs ys e = names.slot_same d xs ys e

-- the numbers of each disk, and the worked cases with a star
pub numerals_hold : NumeralsHold
numerals_hold = numbers.numerals_hold

pub stars_hold : (d : Disk) → Exists d → Hold d (stars d)
stars_hold = starred.stars_hold

-- ---- a program file

module _ (file : List ℕ) where
  -- accepted if and only if it is hunks written out, within the limits
  pub page : ((t : ℕ) × (n : ℕ) × (check_of file ≡ accepted t n)) ↔ ((hs : List contents.Hunk) × contents.Holds file hs)
  page = pages.page file

  -- there is one list of hunks at most that it holds
  pub holds_same : (hs hs' : List contents.Hunk) → contents.Holds file hs → contents.Holds file hs' → hs ≡ hs'
  holds_same hs hs' h h' = unique.holds_same file hs hs' h h'

  -- refused if and only if `Says` holds of the file and the refusal
  pub check_refused_exactly : (f : Refusal) → (check_of file ≡ Err f) ↔ programs.Says file f
  check_refused_exactly f = faults.refused_exactly file f

  -- 43 is given at byte p if and only if the first word of the header that is missing or wrong stands there, is a
  -- size word, and sets bits 30 and 31
  pub check_both_memories : Bytes file → (p : ℕ)
      → (check_of file ≡ Err (refusal fault.both_memories p)) ↔ programs.BothMemories file p
  check_both_memories bytes p = faults.both_exactly file bytes p

  -- the file's word at the byte of each target is its offset in its hunk
  pub targets_named : (hs : List contents.Hunk) → contents.Holds file hs
      → contents.Each (Named file hs) (file_targets hs)
  targets_named = targets.targets_named file

  -- a load, which is lent one list of bases: accepted if and only if the file holds hunks and `Takes` holds of them;
  -- refused if and only if `CallWhy` holds
  pub load_accepted_exactly : (bases : List ℕ) (m r w t n : ℕ)
      → (load_answer file bases m r w ≡ accepted t n)
      ↔ ((hs : List contents.Hunk) × contents.Holds file hs × Takes hs (bases ∷ []) m r w t n)
  load_accepted_exactly bases m r w t n = verdicts.load_accepted file bases m r w t n

  pub load_refused_exactly : (bases : List ℕ) (m r w : ℕ) (f : Refusal)
      → (load_answer file bases m r w ≡ Err f) ↔ CallWhy file (bases ∷ []) m r w f
  load_refused_exactly bases m r w f = verdicts.load_refused file bases m r w f

  -- a move, which is lent the old list and the new: likewise
  pub move_accepted_exactly : (old new : List ℕ) (m r w t n : ℕ)
      → (move_answer file old new m r w ≡ accepted t n)
      ↔ ((hs : List contents.Hunk) × contents.Holds file hs × Takes hs (old ∷ new ∷ []) m r w t n)
  move_accepted_exactly old new m r w t n = verdicts.move_accepted file old new m r w t n

  pub move_refused_exactly : (old new : List ℕ) (m r w : ℕ) (f : Refusal)
      → (move_answer file old new m r w ≡ Err f) ↔ CallWhy file (old ∷ new ∷ []) m r w f
  move_refused_exactly old new m r w f = verdicts.move_refused file old new m r w f

-- ---- loading and moving

-- an accepted load or move, in the terms of the page
module _ (file m : List ℕ) (t : List Hunk) (w : List ℕ) (x n : ℕ) (m1 : List ℕ) (t1 : List Hunk) (w1 : List ℕ) where
  -- the file holds hunks, and memory and table are theirs
  pub load_page : (bases : List ℕ) → Loads file bases m t w (accepted x n) m1 t1 w1
      → (hs : List contents.Hunk) × contents.Holds file hs × LoadedPage (page_records 0 0) hs bases m t x n m1 t1
  load_page = calls.load_page file m t w x n m1 t1 w1

  pub move_page : (old new : List ℕ) → Moves file old new m t w (accepted x n) m1 t1 w1
      → (hs : List contents.Hunk) × contents.Holds file hs × MovedPage (page_records 0 0) hs old new m t x n m1 t1
  move_page = calls.move_page file m t w x n m1 t1 w1

  -- a load adds the base of its hunk to each target's stored word; a move adds new minus old base to what stood there
  pub load_words : (bases : List ℕ) → Loads file bases m t w (accepted x n) m1 t1 w1 → (hs : List contents.Hunk)
      → contents.Holds file hs → Adds (image_of hs) m1 (file_targets hs) (amount_of bases)
  load_words = calls.load_words file m t w x n m1 t1 w1

  pub move_words : (old new : List ℕ) → Moves file old new m t w (accepted x n) m1 t1 w1 → (hs : List contents.Hunk)
      → contents.Holds file hs → Adds m m1 (file_targets hs) (moved old new)
  move_words = calls.move_words file m t w x n m1 t1 w1

  -- outside the targets a load leaves the hunks' bytes, and after them what stood there; a move leaves every byte as
  -- it was
  pub load_others : (bases : List ℕ) → Loads file bases m t w (accepted x n) m1 t1 w1 → (hs : List contents.Hunk)
      → contents.Holds file hs → (k : ℕ) → Outside k (file_targets hs) → get_or m1 k 0 ≡ get_or (with_hunks hs m) k 0
  load_others = calls.load_others file m t w x n m1 t1 w1

  pub move_others_stay : (old new : List ℕ) → Moves file old new m t w (accepted x n) m1 t1 w1
      → (hs : List contents.Hunk) → contents.Holds file hs
      → (length m1 ≡ length m) × ((k : ℕ) → Outside k (file_targets hs) → get_or m1 k 0 ≡ get_or m k 0)
  move_others_stay = calls.move_others_stay file m t w x n m1 t1 w1

module _ (file m : List ℕ) (t : List Hunk) (w : List ℕ) where
  -- a load at A moved to B is a load at B
  pub load_move : (A B : List ℕ) (x n y k : ℕ)
      → (m1 : List ℕ) (t1 : List Hunk) (w1 mB : List ℕ) (tB : List Hunk) (wB : List ℕ)
      → Loads file A m t w (accepted x n) m1 t1 w1 → Loads file B m t w (accepted y k) mB tB wB
      → (w' m2 : List ℕ) (t2 : List Hunk) (w2 : List ℕ) (r : Answer) → length w' ≡ length w
      → Moves file A B m1 t1 w' r m2 t2 w2 → (r ≡ accepted y k) × (m2 ≡ mB) × (t2 ≡ tB) × (w2 ≡ wB)
  load_move A B x n y k = moving.load_move file m t w x n A B y k

  -- A to B to C is A to C, on memory with any contents
  pub move_move : (A B C : List ℕ) (x n y k z j : ℕ) → LoadsAt file A m (length t) w x n
      → LoadsAt file B m (length t) w y k → LoadsAt file C m (length t) w z j
      → (m' : List ℕ) (t' : List Hunk) (w' w'' w''' m1 : List ℕ) (t1 : List Hunk) (w1 m2 : List ℕ) (t2 : List Hunk)
      (w2 m3 : List ℕ) (t3 : List Hunk) (w3 : List ℕ) (r1 r2 r3 : Answer)
      → SameRoom m t w m' t' w' → length w'' ≡ length w → length w''' ≡ length w
      → Moves file A B m' t' w' r1 m1 t1 w1 → Moves file B C m1 t1 w'' r2 m2 t2 w2
      → Moves file A C m' t' w''' r3 m3 t3 w3
      → (r1 ≡ accepted x n) × (r2 ≡ accepted x n) × (r3 ≡ accepted x n) × (m2 ≡ m3) × (t2 ≡ t3) × (w2 ≡ w3)
  move_move A B C x n y k z j a b c = moving.move_move file m t w x n A a B C y k z j b c

  -- A to A changes no byte of memory
  pub move_stays : (A : List ℕ) (x n : ℕ) → LoadsAt file A m (length t) w x n
      → (m' : List ℕ) (t' : List Hunk) (w' m1 : List ℕ) (t1 : List Hunk) (w1 : List ℕ) (r : Answer) → Bytes m'
      → SameRoom m t w m' t' w' → Moves file A A m' t' w' r m1 t1 w1 → (r ≡ accepted x n) × (m1 ≡ m')
  move_stays A x n a = moving.move_stays file m t w x n A a

  -- A to B and back brings every byte back
  pub move_back : (A B : List ℕ) (x n y k : ℕ) → LoadsAt file A m (length t) w x n → LoadsAt file B m (length t) w y k
      → (m' : List ℕ) (t' : List Hunk) (w' w'' m1 : List ℕ) (t1 : List Hunk) (w1 m2 : List ℕ) (t2 : List Hunk)
      (w2 : List ℕ) (r1 r2 : Answer)
      → Bytes m' → SameRoom m t w m' t' w' → length w'' ≡ length w
      → Moves file A B m' t' w' r1 m1 t1 w1 → Moves file B A m1 t1 w'' r2 m2 t2 w2
      → (r1 ≡ accepted x n) × (r2 ≡ accepted x n) × (m2 ≡ m')
  move_back A B x n y k a b = moving.move_back file m t w x n A a B y k b

  -- two outcomes that a promise allows for one input are the same
  pub load_determined : (bases : List ℕ) (r r' : Answer) (m1 : List ℕ) (t1 : List Hunk) (w1 m2 : List ℕ)
      (t2 : List Hunk) (w2 : List ℕ)
      → Loads file bases m t w r m1 t1 w1 → Loads file bases m t w r' m2 t2 w2
      → (numbers_of r ≡ numbers_of r') × (r ≡ r') × (m1 ≡ m2) × (t1 ≡ t2) × (w1 ≡ w2)
  load_determined bases r r' m1 t1 w1 m2 t2 w2 a b =
      let q = deciding.load_determined file bases m t w r r' m1 t1 w1 m2 t2 w2 a b in
      (q.0, a.answer ∙ sym b.answer, q.1, q.2, q.3)

  pub move_determined : (old new : List ℕ) (r r' : Answer) (m1 : List ℕ) (t1 : List Hunk) (w1 m2 : List ℕ)
      (t2 : List Hunk) (w2 : List ℕ)
      → Moves file old new m t w r m1 t1 w1 → Moves file old new m t w r' m2 t2 w2
      → (numbers_of r ≡ numbers_of r') × (r ≡ r') × (m1 ≡ m2) × (t1 ≡ t2) × (w1 ≡ w2)
  move_determined old new r r' m1 t1 w1 m2 t2 w2 a b =
      let q = deciding.move_determined file old new m t w r r' m1 t1 w1 m2 t2 w2 a b in
      (q.0, a.answer ∙ sym b.answer, q.1, q.2, q.3)

  -- a refused load or move changes no byte of memory and no record
  pub load_keeps : (bases : List ℕ) (f : Refusal) (m1 : List ℕ) (t1 : List Hunk) (w1 : List ℕ)
      → Loads file bases m t w (Err f) m1 t1 w1 → (m1 ≡ m) × (t1 ≡ t) × (w1 ≡ replicate (length w) 0)
  load_keeps bases = deciding.load_keeps file bases m t w

  pub move_keeps : (old new : List ℕ) (f : Refusal) (m1 : List ℕ) (t1 : List Hunk) (w1 : List ℕ)
      → Moves file old new m t w (Err f) m1 t1 w1 → (m1 ≡ m) × (t1 ≡ t) × (w1 ≡ replicate (length w) 0)
  move_keeps old new = deciding.move_keeps file old new m t w

-- ---- what a C program sees: each exported call, by its numbers and by what it leaves

-- the audit of an image s with a claim area of n bytes, which names b blocks
module _ (b : ℕ) (s : List ℕ) (n : ℕ) (r : AuditNumbers) (claim : List ℕ) (a : AuditsImage b s n r claim) where
  -- the number is 0 if and only if there is a claim byte for each block and the image is a volume of a disk
  -- that exists and is named
  pub audit_zero : (r.number ≡ 0) ↔ ((claim_bytes (disk_of b s) ≤ n) × IsVolume b s)
  audit_zero = seen.audit_zero b s n r claim a

  -- another number v is given at place k if and only if its test says so
  pub audit_refused_at : (v k : ℕ) → v ≢ 0 → ((r.number ≡ v) × (r.place ≡ k)) ↔ Says (disk_of b s) s n v k (test_of v)
  audit_refused_at = seen.audit_refused_at b s n r claim a

  -- 1 if and only if no disk fits
  pub audit_unfit : (k : ℕ) → ((r.number ≡ fault.image_length) × (r.place ≡ k)) ↔ ((k ≡ 0) × Unfit b s)
  audit_unfit = seen.audit_unfit b s n r claim a

  -- 2 if and only if the disk fits and the claim area has not a byte for each of its blocks
  pub audit_short : (k : ℕ)
      → ((r.number ≡ fault.claim_area) × (r.place ≡ k))
      ↔ ((k ≡ 0) × Fits b s (disk_of b s) × (n < claim_bytes (disk_of b s)))
  audit_short = seen.audit_short b s n r claim a

  -- 3 if and only if the disk fits, the claim area is long enough, and the image has the boot tag of no disk
  pub audit_no_tag : (k : ℕ)
      → ((r.number ≡ fault.boot_tag) × (r.place ≡ k))
      ↔ ((k ≡ 0) × Fits b s (disk_of b s) × (claim_bytes (disk_of b s) ≤ n) × NoTag s)
  audit_no_tag = seen.audit_no_tag b s n r claim a

  -- a number other than 0 is one of these; nothing is reported then, and the claim area is cleared
  pub audit_number : r.number ∈ (0 ∷ audit.audit_refusals)
  audit_number = seen.audit_number b s n r claim a

  pub audit_refused : r.number ≢ 0
      → (claim ≡ replicate n 0) × (r.directories ≡ 0) × (r.files ≡ 0) × (r.list_blocks ≡ 0)
      × (r.data_blocks ≡ 0) × (r.used ≡ 0) × (r.free ≡ 0)
  audit_refused = seen.audit_refused b s n r claim a

-- a path
module _ (b : ℕ) (s path : List ℕ) (r : FindNumbers) (a : r ≡ find_in_image b s path) where
  -- the number is 0 if and only if the components lead to the directory of that key, or to the file of that key and
  -- size
  pub find_zero : (r.number ≡ 0)
      ↔ (((r.kind ≡ 2) × (r.size ≡ 0) × lookups.Opened (disk_of b s) s path
      × Trail (disk_of b s) s (root_of (disk_of b s)) (components path) r.key r.compared)
      ⊎ ((r.kind ≡ 0xFFFFFFFD) × lookups.IsFile (disk_of b s) s path r.key r.size r.compared))
  find_zero = seen.find_zero b s path r a

  -- another number v is given at place k if and only if `Refuses` holds of them
  pub find_refused_at : (v k : ℕ) → v ≢ 0 → ((r.number ≡ v) × (r.place ≡ k)) ↔ lookups.Refuses (disk_of b s) s path v k
  find_refused_at = seen.find_refused_at b s path r a

  -- 1 if and only if no disk fits
  pub find_unfit : (k : ℕ) → ((r.number ≡ fault.image_length) × (r.place ≡ k)) ↔ ((k ≡ 0) × Unfit b s)
  find_unfit = seen.find_unfit b s path r a

  -- 3 if and only if the disk fits, the path is right, and the image has the boot tag of no disk
  pub find_no_tag : (k : ℕ)
      → ((r.number ≡ fault.boot_tag) × (r.place ≡ k))
      ↔ ((k ≡ 0) × Fits b s (disk_of b s) × lookups.GoodForm path × NoTag s)
  find_no_tag = seen.find_no_tag b s path r a

  -- a number other than 0 is one of these; all values are 0 then
  pub find_number : r.number ∈ (0 ∷ lookup.find_refusals)
  find_number = seen.find_number b s path r a

  pub find_refused : r.number ≢ 0 → (r.kind ≡ 0) × (r.key ≡ 0) × (r.size ≡ 0) × (r.compared ≡ 0)
  find_refused = seen.find_refused b s path r a

-- a read at offset o
module _ (b : ℕ) (s path : List ℕ) (o : ℕ) (output : List ℕ) (r : ReadNumbers) (output' : List ℕ)
    (a : ReadsImage b s path o output r output') where
  -- the number is 0 if and only if the path leads to a whole file, and `count` is what the room and the rest of the
  -- file allow
  pub read_zero : (r.number ≡ 0) ↔ outcomes.Gives (disk_of b s) s path o (length output) r.count
  read_zero = seen.read_zero b s path o output r output' a

  -- another number v is given at place k if and only if `Refuses` holds of them
  pub read_refused_at : (v k : ℕ) → v ≢ 0
      → ((r.number ≡ v) × (r.place ≡ k)) ↔ outcomes.Refuses (disk_of b s) s path v k
  read_refused_at = seen.read_refused_at b s path o output r output' a

  -- 1 if and only if no disk fits
  pub read_unfit : (k : ℕ) → ((r.number ≡ fault.image_length) × (r.place ≡ k)) ↔ ((k ≡ 0) × Unfit b s)
  read_unfit = seen.read_unfit b s path o output r output' a

  -- 3 if and only if the disk fits, the path is right, and the image has the boot tag of no disk
  pub read_no_tag : (k : ℕ)
      → ((r.number ≡ fault.boot_tag) × (r.place ≡ k))
      ↔ ((k ≡ 0) × Fits b s (disk_of b s) × lookups.GoodForm path × NoTag s)
  read_no_tag = seen.read_no_tag b s path o output r output' a

  -- a number other than 0 is one of these; the output is as before then
  pub read_number : r.number ∈ (0 ∷ read.read_refusals)
  read_number = seen.read_number b s path o output r output' a

  pub read_refused : r.number ≢ 0 → (output' ≡ output) × (r.count ≡ 0)
  read_refused = seen.read_refused b s path o output r output' a

module _ (file : List ℕ) (r : ProgramNumbers) (a : r ≡ check_numbers file) where
  -- a check: the number is 0 if and only if the file holds hunks, so many that take so many bytes
  pub check_zero : (r.number ≡ 0)
      ↔ ((hs : List contents.Hunk) × contents.Holds file hs × (r.hunks ≡ length hs)
      × (r.bytes ≡ 4 * contents.total hs))
  check_zero = seen.check_zero file r a

  -- another number v is given at place k if and only if `Says` holds of them
  pub check_refused_at : (v k : ℕ) → v ≢ 0
      → ((r.number ≡ v) × (r.place ≡ k)) ↔ programs.Says file (refusal v k)
  check_refused_at = seen.check_refused_at file r a

  -- a number other than 0 is one of these; it comes with no hunks and no bytes
  pub check_number : r.number ∈ (0 ∷ check_refusals)
  check_number = seen.check_number file r a

  pub check_refused : r.number ≢ 0 → (r.hunks ≡ 0) × (r.bytes ≡ 0)
  check_refused = seen.check_refused file r a

module _ (file m : List ℕ) (t : List Hunk) (w : List ℕ) (r : ProgramNumbers) (m' : List ℕ) (t' : List Hunk)
    (w' : List ℕ) where
  -- a load: the number is 0 if and only if the file holds hunks and `Takes` holds of them, with their number and bytes
  pub load_zero : (bases : List ℕ) → LoadsNumbers file bases m t w r m' t' w'
      → (r.number ≡ 0) ↔ ((hs : List contents.Hunk) × contents.Holds file hs
      × Takes hs (bases ∷ []) (length m) (length t) (length w) r.hunks r.bytes)
  load_zero = seen.load_zero file m t w r m' t' w'

  -- its hunks and bytes are then those that the check gives
  pub load_checked : (bases : List ℕ) → LoadsNumbers file bases m t w r m' t' w' → r.number ≡ 0
      → r ≡ check_numbers file
  load_checked = seen.load_checked file m t w r m' t' w'

  -- another number v is given at place k if and only if `CallWhy` holds of them
  pub load_refused_at : (bases : List ℕ) → LoadsNumbers file bases m t w r m' t' w' → (v k : ℕ) → v ≢ 0
      → ((r.number ≡ v) × (r.place ≡ k)) ↔ CallWhy file (bases ∷ []) (length m) (length t) (length w) (refusal v k)
  load_refused_at = seen.load_refused_at file m t w r m' t' w'

  -- a number other than 0 is one of these; memory and table are as before then, and the work area is cleared
  pub load_number : (bases : List ℕ) → LoadsNumbers file bases m t w r m' t' w' → r.number ∈ (0 ∷ call_refusals)
  load_number = seen.load_number file m t w r m' t' w'

  pub load_refused : (bases : List ℕ) → LoadsNumbers file bases m t w r m' t' w' → r.number ≢ 0
      → (m' ≡ m) × (t' ≡ t) × (w' ≡ replicate (length w) 0) × (r.hunks ≡ 0) × (r.bytes ≡ 0)
  load_refused = seen.load_refused file m t w r m' t' w'

  -- a move: likewise
  pub move_zero : (old new : List ℕ) → MovesNumbers file old new m t w r m' t' w'
      → (r.number ≡ 0) ↔ ((hs : List contents.Hunk) × contents.Holds file hs
      × Takes hs (old ∷ new ∷ []) (length m) (length t) (length w) r.hunks r.bytes)
  move_zero = seen.move_zero file m t w r m' t' w'

  pub move_checked : (old new : List ℕ) → MovesNumbers file old new m t w r m' t' w' → r.number ≡ 0
      → r ≡ check_numbers file
  move_checked = seen.move_checked file m t w r m' t' w'

  pub move_refused_at : (old new : List ℕ) → MovesNumbers file old new m t w r m' t' w' → (v k : ℕ) → v ≢ 0
      → ((r.number ≡ v) × (r.place ≡ k)) ↔ CallWhy file (old ∷ new ∷ []) (length m) (length t) (length w)
      (refusal v k)
  move_refused_at = seen.move_refused_at file m t w r m' t' w'

  pub move_number : (old new : List ℕ) → MovesNumbers file old new m t w r m' t' w' → r.number ∈ (0 ∷ call_refusals)
  move_number = seen.move_number file m t w r m' t' w'

  pub move_refused : (old new : List ℕ) → MovesNumbers file old new m t w r m' t' w' → r.number ≢ 0
      → (m' ≡ m) × (t' ≡ t) × (w' ≡ replicate (length w) 0) × (r.hunks ≡ 0) × (r.bytes ≡ 0)
  move_refused = seen.move_refused file m t w r m' t' w'

-- the laws of moving: a load at A gives number 0, and so does a load at B, in the same room
module _ (file m : List ℕ) (t : List Hunk) (w : List ℕ) (A : List ℕ) (rA : ProgramNumbers) (mA : List ℕ)
    (tA : List Hunk) (wA : List ℕ) (a : LoadsNumbers file A m t w rA mA tA wA) (za : rA.number ≡ 0) where
  -- A to A changes no byte of memory
  pub seen_move_stays : (m' : List ℕ) (t' : List Hunk) (w' : List ℕ) (r : ProgramNumbers) (m1 : List ℕ)
      (t1 : List Hunk) (w1 : List ℕ)
      → Bytes m' → SameRoom m t w m' t' w' → MovesNumbers file A A m' t' w' r m1 t1 w1 → (r.number ≡ 0) × (m1 ≡ m')
  seen_move_stays = seen-moving.move_stays file m t w A rA mA tA wA a za

  module _ (B : List ℕ) (rB : ProgramNumbers) (mB : List ℕ) (tB : List Hunk) (wB : List ℕ)
      (b : LoadsNumbers file B m t w rB mB tB wB) (zb : rB.number ≡ 0) where
    -- a load at A moved to B is a load at B
    pub seen_load_move : (w' : List ℕ) (r : ProgramNumbers) (m2 : List ℕ) (t2 : List Hunk) (w2 : List ℕ)
        → length w' ≡ length w → MovesNumbers file A B mA tA w' r m2 t2 w2
        → (r.number ≡ 0) × (r ≡ rB) × (m2 ≡ mB) × (t2 ≡ tB) × (w2 ≡ wB)
    seen_load_move = seen-moving.load_move file m t w A rA mA tA wA a za B rB mB tB wB b zb

    -- A to B and back brings every byte back
    pub seen_move_back : (m' : List ℕ) (t' : List Hunk) (w' w'' : List ℕ) (r1 r2 : ProgramNumbers) (m1 : List ℕ)
        (t1 : List Hunk) (w1 m2 : List ℕ) (t2 : List Hunk) (w2 : List ℕ)
        → Bytes m' → SameRoom m t w m' t' w' → length w'' ≡ length w
        → MovesNumbers file A B m' t' w' r1 m1 t1 w1 → MovesNumbers file B A m1 t1 w'' r2 m2 t2 w2
        → (r1.number ≡ 0) × (r2.number ≡ 0) × (m2 ≡ m')
    seen_move_back = seen-moving.move_back file m t w A rA mA tA wA a za B rB mB tB wB b zb

    -- A to B to C is A to C, on memory with any contents, where a load at C gives number 0 too
    pub seen_move_move : (C : List ℕ) (rC : ProgramNumbers) (mC : List ℕ) (tC : List Hunk) (wC : List ℕ)
        → LoadsNumbers file C m t w rC mC tC wC → rC.number ≡ 0
        → (m' : List ℕ) (t' : List Hunk) (w' w'' w''' : List ℕ) (r1 r2 r3 : ProgramNumbers) (m1 : List ℕ)
        (t1 : List Hunk) (w1 m2 : List ℕ) (t2 : List Hunk) (w2 m3 : List ℕ) (t3 : List Hunk) (w3 : List ℕ)
        → SameRoom m t w m' t' w' → length w'' ≡ length w → length w''' ≡ length w
        → MovesNumbers file A B m' t' w' r1 m1 t1 w1 → MovesNumbers file B C m1 t1 w'' r2 m2 t2 w2
        → MovesNumbers file A C m' t' w''' r3 m3 t3 w3
        → (r1.number ≡ 0) × (r2.number ≡ 0) × (r2 ≡ r3) × (m2 ≡ m3) × (t2 ≡ t3) × (w2 ≡ w3)
    seen_move_move = seen-moving.move_move file m t w A rA mA tA wA a za B rB mB tB wB b zb

-- a move's number is 0 if and only if a load's is at each of its two lists of bases
module _ (file m : List ℕ) (t : List Hunk) (w : List ℕ) where
  pub seen_move_loads : (A B : List ℕ) (rA rB r : ProgramNumbers) (mA : List ℕ) (tA : List Hunk) (wA mB : List ℕ)
      (tB : List Hunk) (wB m' : List ℕ) (t' : List Hunk) (w' m1 : List ℕ) (t1 : List Hunk) (w1 : List ℕ)
      → SameRoom m t w m' t' w'
      → LoadsNumbers file A m t w rA mA tA wA → LoadsNumbers file B m t w rB mB tB wB
      → MovesNumbers file A B m' t' w' r m1 t1 w1 → (r.number ≡ 0) ↔ ((rA.number ≡ 0) × (rB.number ≡ 0))
  seen_move_loads = seen-moving.move_loads file m t w

-- the sentence of a number: none is longer than 128 bytes
pub sentence_most : (n : ℕ) → length (sentence_of n) ≤ 128
sentence_most = spoken.sentence_most

-- where it fits, it stands in the output whole, and what follows it stays
module _ (n : ℕ) (output : List ℕ) (r : ℕ) (output' : List ℕ) (a : Reasons n output r output') where
  pub reason_whole : r ≤ length output → (take r output' ≡ sentence_of n) × (drop r output' ≡ drop r output)
  reason_whole = spoken.reason_whole n output r output' a

-- each refusal of each call has one
module _ (v : ℕ) where
  pub audit_spoken : v ∈ audit.audit_refusals → 0 < length (sentence_of v)
  audit_spoken = spoken.audit_spoken v

  pub find_spoken : v ∈ lookup.find_refusals → 0 < length (sentence_of v)
  find_spoken = spoken.find_spoken v

  pub read_spoken : v ∈ read.read_refusals → 0 < length (sentence_of v)
  read_spoken = spoken.read_spoken v

  pub check_spoken : v ∈ check_refusals → 0 < length (sentence_of v)
  check_spoken = spoken.check_spoken v

  pub call_spoken : v ∈ call_refusals → 0 < length (sentence_of v)
  call_spoken = spoken.call_spoken v

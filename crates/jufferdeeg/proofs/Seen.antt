-- What a C program sees: when the number of an exported call is 0, which numbers there are else, when each of them is
-- given at which place, and what a refused call leaves. Assumes nothing.
use Prim.Native.Nat.{ℕ, ◌*◌, ◌≤◌, ◌<◌}
use mathlib.Core.Path.{◌≡◌, refl, sym, ap, ap₂, ◌∙◌}
use mathlib.Core.Logic.Iff
use mathlib.Core.Logic.{◌≢◌, ◌↔◌, ◌⊎◌, inl, inr}
use mathlib.Core.List.{List, [], ◌∷◌}
use lib.ListN.{length, replicate}
use native.Mathlib.Omega.{arith}
use Rattle.std.specs.Prelude.{Result, Ok, Err}
use Rattle.answers.specs.Numbers as fault
use Rattle.answers.specs.Members.{◌∈◌}
use Rattle.answers.specs.Refusals.{refusal}
use Rattle.answers.specs.declared.Refusal.{Refusal}
use Rattle.volume.specs.Disks.{root_of, claim_bytes, disk_of, Fits, Unfit, NoTag}
use Rattle.volume.specs.Law.{IsVolume}
use Rattle.audit.specs.declared.audit.Report.{Report}
use Rattle.audit.specs.Audits as audit
use Rattle.audit.specs.Verdicts.{test_of, Says}
use Rattle.audit.proofs.Answers.{answers_exactly}
use Rattle.audit.proofs.Accepting as auditing
use Rattle.audit.proofs.Refusing as audit-refusing
use Rattle.audit.proofs.AsNumbers as audit-numbers
use Rattle.lookup.specs.declared.find.Found.{Found}
use Rattle.lookup.specs.declared.find.Found.TheVariants as found
use Rattle.lookup.specs.Lookup as lookup
use Rattle.lookup.specs.Paths.{components}
use Rattle.lookup.specs.Trails.{Trail}
use Rattle.lookup.specs.Verdicts as lookups
use Rattle.lookup.proofs.Refusing as finding
use Rattle.lookup.proofs.AsNumbers as lookup-numbers
use Rattle.reading.specs.Reads as read
use Rattle.reading.specs.Outcomes as outcomes
use Rattle.reading.proofs.Answers.{read_exactly}
use Rattle.reading.proofs.Refusing as unread
use Rattle.reading.proofs.AsNumbers as read-numbers
use Rattle.program.specs.Check.{Answer, accepted}
use Rattle.program.specs.Page as contents
use Rattle.program.specs.Check.{numbers_of, check_refusals, check_of, Checks}
use Rattle.program.specs.Verdicts.{Says as Faults}
use Rattle.program.proofs.Pages.{page_accepted, page}
use Rattle.program.proofs.Refusing.{refused_exactly}
use Rattle.program.proofs.AsNumbers as check-numbers
use Rattle.loader.specs.Memory.{load_of, move_of}
use Rattle.loader.specs.Calls.{call_refusals, effect}
use Rattle.loader.specs.Verdicts.{Accepts, Takes, CallWhy}
use Rattle.loader.proofs.Deciding.{load_exactly, move_exactly}
use Rattle.loader.proofs.PageVerdicts as verdicts
use Rattle.hunks.specs.declared.Hunk.{Hunk}
use Rattle.hunks.specs.Records.{hunks_of}
use Rattle.hunks.specs.Calls.{kept}
use Rattle.hunks.proofs.AsNumbers as hunk-numbers
use Rattle.jufferdeeg.specs.declared.volumes.AuditNumbers.{AuditNumbers}
use Rattle.jufferdeeg.specs.declared.volumes.FindNumbers.{FindNumbers}
use Rattle.jufferdeeg.specs.declared.volumes.ReadNumbers.{ReadNumbers}
use Rattle.jufferdeeg.specs.declared.programs.ProgramNumbers.{ProgramNumbers}
use Rattle.jufferdeeg.specs.Volumes.{audit_numbers, find_numbers, read_numbers, find_in_image, AuditsImage}
use Rattle.jufferdeeg.specs.Volumes.{ReadsImage}
use Rattle.jufferdeeg.specs.Programs.{program_numbers, check_numbers, loads_as, moves_as, LoadsNumbers, MovesNumbers}

-- ---- the audit of an image s with a claim area of n bytes, which names b blocks

-- a number other than 0, with its place, is a refusal's
audit_says : (x : Result Report Refusal) (v k : ℕ) → v ≢ 0
    → (((audit_numbers x).number ≡ v) × ((audit_numbers x).place ≡ k)) ↔ (x ≡ audit.refuse v k)
audit_says x v k z = (there x, λ e. rw e (refl, refl))
  where
    there : (y : Result Report Refusal) → ((audit_numbers y).number ≡ v) × ((audit_numbers y).place ≡ k)
        → y ≡ audit.refuse v k
    there (Ok p) (a, b) = absurd (z (sym a))
    there (Err f) (a, b) = ap₂ audit.refuse a b

module _ (b : ℕ) (s : List ℕ) (n : ℕ) (r : AuditNumbers) (claim' : List ℕ) (a : AuditsImage b s n r claim') where
  -- the number is 0 if and only if the answer is one that accepts
  audit_accepts : (r.number ≡ 0) ↔ ((p : Report) × (audit.audit_of (disk_of b s) s n ≡ Ok p))
  audit_accepts = rw a.answer (audit-numbers.zero_exactly (disk_of b s) s n _ claim' a.call)

  -- the number is 0 if and only if there is a claim byte for each block and the image is a volume of a disk
  -- that exists and is named
  pub audit_zero : (r.number ≡ 0) ↔ ((claim_bytes (disk_of b s) ≤ n) × IsVolume b s)
  audit_zero = (there, λ (h, v). audit_accepts.1 ((auditing.accepted_volume b s n h).1 v))
    where
      there : r.number ≡ 0 → (claim_bytes (disk_of b s) ≤ n) × IsVolume b s
      there z =
          let x = audit_accepts.0 z in
          let q = (answers_exactly (disk_of b s) s n (Ok x.0)).0 x.1 in
          let h : claim_bytes (disk_of b s) ≤ n = q.opened.room in
          (h, (auditing.accepted_volume b s n h).0 x)

  -- with a claim byte for each block: if and only if the image is a volume
  pub audit_volume : claim_bytes (disk_of b s) ≤ n → (r.number ≡ 0) ↔ IsVolume b s
  audit_volume h = (λ z. (audit_zero.0 z).1, λ v. audit_zero.1 (h, v))

  -- another number v is given at place k if and only if its test says so
  pub audit_refused_at : (v k : ℕ) → v ≢ 0 → ((r.number ≡ v) × (r.place ≡ k)) ↔ Says (disk_of b s) s n v k (test_of v)
  audit_refused_at v k z =
      rw a.answer (Iff.trans (audit_says (audit.audit_of (disk_of b s) s n) v k z)
      (audit-refusing.refused_exactly (disk_of b s) s n v k))

  -- 1 if and only if no disk fits
  pub audit_unfit : (k : ℕ) → ((r.number ≡ fault.image_length) × (r.place ≡ k)) ↔ ((k ≡ 0) × Unfit b s)
  audit_unfit k =
      rw a.answer (Iff.trans (audit_says (audit.audit_of (disk_of b s) s n) fault.image_length k (λ e. omega arith))
      (audit-refusing.refused_unfit b s n k))

  -- 2 if and only if the disk fits and the claim area has not a byte for each of its blocks
  pub audit_short : (k : ℕ)
      → ((r.number ≡ fault.claim_area) × (r.place ≡ k))
      ↔ ((k ≡ 0) × Fits b s (disk_of b s) × (n < claim_bytes (disk_of b s)))
  audit_short k =
      rw a.answer (Iff.trans (audit_says (audit.audit_of (disk_of b s) s n) fault.claim_area k (λ e. omega arith))
      (audit-refusing.refused_short b s n k))

  -- 3 if and only if the disk fits, the claim area is long enough, and the image has the boot tag of no disk
  pub audit_no_tag : (k : ℕ)
      → ((r.number ≡ fault.boot_tag) × (r.place ≡ k))
      ↔ ((k ≡ 0) × Fits b s (disk_of b s) × (claim_bytes (disk_of b s) ≤ n) × NoTag s)
  audit_no_tag k =
      rw a.answer (Iff.trans (audit_says (audit.audit_of (disk_of b s) s n) fault.boot_tag k (λ e. omega arith))
      (audit-refusing.refused_tag b s n k))

  -- the number is 0 or one of these
  pub audit_number : r.number ∈ (0 ∷ audit.audit_refusals)
  audit_number =
      rw a.answer (go (audit.audit_of (disk_of b s) s n)
      (audit-numbers.number_listed (disk_of b s) s n _ claim' a.call))
    where
      go : (x : Result Report Refusal)
          → ((f : Refusal) → x ≡ Err f → (audit.numbers_of x).number ∈ audit.audit_refusals)
          → (audit_numbers x).number ∈ (0 ∷ audit.audit_refusals)
      go (Ok p) h = inl refl
      go (Err f) h = inr (h f refl)

  -- a refused audit reports nothing, and its claim area comes back cleared
  pub audit_refused : r.number ≢ 0
      → (claim' ≡ replicate n 0) × (r.directories ≡ 0) × (r.files ≡ 0) × (r.list_blocks ≡ 0)
      × (r.data_blocks ≡ 0) × (r.used ≡ 0) × (r.free ≡ 0)
  audit_refused z = go (audit.audit_of (disk_of b s) s n) refl a.call.claim
    where
      go : (x : Result Report Refusal) → audit.audit_of (disk_of b s) s n ≡ x
          → claim' ≡ audit.claim_after (disk_of b s) s x n
          → (claim' ≡ replicate n 0) × (r.directories ≡ 0) × (r.files ≡ 0) × (r.list_blocks ≡ 0)
          × (r.data_blocks ≡ 0) × (r.used ≡ 0) × (r.free ≡ 0)
      go (Ok p) e c = absurd (z (audit_accepts.1 (p, e)))
      go (Err f) e c =
          let q = a.answer ∙ ap audit_numbers e in
          (c, rw q refl, rw q refl, rw q refl, rw q refl, rw q refl, rw q refl)

-- ---- a path

-- a number other than 0, with its place, is a refusal's
find_says : (x : Result Found Refusal) (v k : ℕ) → v ≢ 0
    → (((find_numbers x).number ≡ v) × ((find_numbers x).place ≡ k)) ↔ (x ≡ lookup.refuse v k)
find_says x v k z = (there x, λ e. rw e (refl, refl))
  where
    there : (y : Result Found Refusal) → ((find_numbers y).number ≡ v) × ((find_numbers y).place ≡ k)
        → y ≡ lookup.refuse v k
    there (Ok (found.Directory t c)) (a, b) = absurd (z (sym a))
    there (Ok (found.File t y c)) (a, b) = absurd (z (sym a))
    there (Err f) (a, b) = ap₂ lookup.refuse a b

-- the path leads to the directory of that key, with so many entries compared
abbrev pub FindsDirectory : ℕ → List ℕ → List ℕ → FindNumbers → Type 0
FindsDirectory b s path r =
    let d = disk_of b s in
    (r.kind ≡ 2) × (r.size ≡ 0) × lookups.Opened d s path × Trail d s (root_of d) (components path) r.key
    r.compared

-- or to the file of that key and size
abbrev pub FindsFile : ℕ → List ℕ → List ℕ → FindNumbers → Type 0
FindsFile b s path r = (r.kind ≡ 0xFFFFFFFD) × lookups.IsFile (disk_of b s) s path r.key r.size r.compared

module _ (b : ℕ) (s path : List ℕ) (r : FindNumbers) (a : r ≡ find_in_image b s path) where
  finds : lookup.Finds (disk_of b s) s path (lookup.find_of (disk_of b s) s path)
  finds = record { answer = refl; numbers = refl }

  -- the number is 0 if and only if the answer is a directory or a file
  find_answers : (r.number ≡ 0)
      ↔ (((k : ℕ) × (c : ℕ) × (lookup.find_of (disk_of b s) s path ≡ Ok (found.Directory k c)))
      ⊎ ((k : ℕ) × (z : ℕ) × (c : ℕ) × (lookup.find_of (disk_of b s) s path ≡ Ok (found.File k z c))))
  find_answers = rw a (lookup-numbers.zero_exactly (disk_of b s) s path _ finds)

  -- the number is 0 if and only if the path leads to a directory or to a file
  pub find_zero : (r.number ≡ 0) ↔ (FindsDirectory b s path r ⊎ FindsFile b s path r)
  find_zero = (λ z. there (find_answers.0 z), back)
    where
      there : ((k : ℕ) × (c : ℕ) × (lookup.find_of (disk_of b s) s path ≡ Ok (found.Directory k c)))
          ⊎ ((k : ℕ) × (z : ℕ) × (c : ℕ) × (lookup.find_of (disk_of b s) s path ≡ Ok (found.File k z c)))
          → FindsDirectory b s path r ⊎ FindsFile b s path r
      there (inl (k, c, e)) =
          let q = (finding.directory_exactly (disk_of b s) s path k c).0 e in
          inl (rw (a ∙ ap find_numbers e) (refl, refl, q.0, q.1))
      there (inr (k, z, c, e)) =
          let q = (finding.file_exactly (disk_of b s) s path k z c).0 e in inr (rw (a ∙ ap find_numbers e) (refl, q))

      back : FindsDirectory b s path r ⊎ FindsFile b s path r → r.number ≡ 0
      back (inl (i, j, o, t)) =
          find_answers.1 (inl (_, _, (finding.directory_exactly (disk_of b s) s path r.key r.compared).1 (o, t)))
      back (inr (i, f)) =
          let e = (finding.file_exactly (disk_of b s) s path r.key r.size r.compared).1 f in
          find_answers.1 (inr (_, _, _, e))

  -- another number v is given at place k if and only if `Refuses` holds of them
  pub find_refused_at : (v k : ℕ) → v ≢ 0 → ((r.number ≡ v) × (r.place ≡ k)) ↔ lookups.Refuses (disk_of b s) s path v k
  find_refused_at v k z =
      rw a (Iff.trans (find_says (lookup.find_of (disk_of b s) s path) v k z)
      (finding.refused_exactly (disk_of b s) s path v k))

  -- 1 if and only if no disk fits
  pub find_unfit : (k : ℕ) → ((r.number ≡ fault.image_length) × (r.place ≡ k)) ↔ ((k ≡ 0) × Unfit b s)
  find_unfit k =
      rw a (Iff.trans (find_says (lookup.find_of (disk_of b s) s path) fault.image_length k (λ e. omega arith))
      (finding.refused_unfit b s path k))

  -- 3 if and only if the disk fits, the path is right, and the image has the boot tag of no disk
  pub find_no_tag : (k : ℕ)
      → ((r.number ≡ fault.boot_tag) × (r.place ≡ k))
      ↔ ((k ≡ 0) × Fits b s (disk_of b s) × lookups.GoodForm path × NoTag s)
  find_no_tag k =
      rw a (Iff.trans (find_says (lookup.find_of (disk_of b s) s path) fault.boot_tag k (λ e. omega arith))
      (finding.refused_tag b s path k))

  -- the number is 0 or one of these
  pub find_number : r.number ∈ (0 ∷ lookup.find_refusals)
  find_number = rw a (go (lookup.find_of (disk_of b s) s path)
      (lookup-numbers.number_listed (disk_of b s) s path _ finds))
    where
      go : (x : Result Found Refusal)
          → ((f : Refusal) → x ≡ Err f → (lookup.numbers_of x).number ∈ lookup.find_refusals)
          → (find_numbers x).number ∈ (0 ∷ lookup.find_refusals)
      go (Ok (found.Directory k c)) h = inl refl
      go (Ok (found.File k z c)) h = inl refl
      go (Err f) h = inr (h f refl)

  -- a refused lookup gives no values
  pub find_refused : r.number ≢ 0 → (r.kind ≡ 0) × (r.key ≡ 0) × (r.size ≡ 0) × (r.compared ≡ 0)
  find_refused z = go (lookup.find_of (disk_of b s) s path) refl
    where
      go : (x : Result Found Refusal) → lookup.find_of (disk_of b s) s path ≡ x
          → (r.kind ≡ 0) × (r.key ≡ 0) × (r.size ≡ 0) × (r.compared ≡ 0)
      go (Ok (found.Directory k c)) e = absurd (z (find_answers.1 (inl (k, c, e))))
      go (Ok (found.File k y c)) e = absurd (z (find_answers.1 (inr (k, y, c, e))))
      go (Err f) e = let q = a ∙ ap find_numbers e in (rw q refl, rw q refl, rw q refl, rw q refl)

-- ---- a read at offset o

-- a number other than 0, with its place, is a refusal's
read_says : (x : Result ℕ Refusal) (v k : ℕ) → v ≢ 0
    → (((read_numbers x).number ≡ v) × ((read_numbers x).place ≡ k)) ↔ (x ≡ read.refuse v k)
read_says x v k z = (there x, λ e. rw e (refl, refl))
  where
    there : (y : Result ℕ Refusal) → ((read_numbers y).number ≡ v) × ((read_numbers y).place ≡ k)
        → y ≡ read.refuse v k
    there (Ok n) (a, b) = absurd (z (sym a))
    there (Err f) (a, b) = ap₂ read.refuse a b

module _ (b : ℕ) (s path : List ℕ) (o : ℕ) (output : List ℕ) (r : ReadNumbers) (output' : List ℕ)
    (a : ReadsImage b s path o output r output') where
  -- the number is 0 if and only if the answer is a number of bytes
  read_answers : (r.number ≡ 0) ↔ ((n : ℕ) × (read.read_of (disk_of b s) s path o (length output) ≡ Ok n))
  read_answers = rw a.answer (read-numbers.zero_exactly (disk_of b s) s path o output _ output' a.call)

  -- the number is 0 if and only if the path leads to a whole file, of which so many bytes are given
  pub read_zero : (r.number ≡ 0) ↔ outcomes.Gives (disk_of b s) s path o (length output) r.count
  read_zero = (there, λ g. read_answers.1 (_, (read_exactly (disk_of b s) s path o (length output) r.count).1 g))
    where
      there : r.number ≡ 0 → outcomes.Gives (disk_of b s) s path o (length output) r.count
      there z =
          let x = read_answers.0 z in
          rw (a.answer ∙ ap read_numbers x.1) ((read_exactly (disk_of b s) s path o (length output) x.0).0 x.1)

  -- another number v is given at place k if and only if `Refuses` holds of them
  pub read_refused_at : (v k : ℕ) → v ≢ 0
      → ((r.number ≡ v) × (r.place ≡ k)) ↔ outcomes.Refuses (disk_of b s) s path v k
  read_refused_at v k z =
      rw a.answer (Iff.trans (read_says (read.read_of (disk_of b s) s path o (length output)) v k z)
      (unread.refused_exactly (disk_of b s) s path o (length output) v k))

  -- 1 if and only if no disk fits
  pub read_unfit : (k : ℕ) → ((r.number ≡ fault.image_length) × (r.place ≡ k)) ↔ ((k ≡ 0) × Unfit b s)
  read_unfit k =
      rw a.answer
      (Iff.trans (read_says (read.read_of (disk_of b s) s path o (length output)) fault.image_length k
      (λ e. omega arith))
      (unread.refused_unfit b s path o (length output) k))

  -- 3 if and only if the disk fits, the path is right, and the image has the boot tag of no disk
  pub read_no_tag : (k : ℕ)
      → ((r.number ≡ fault.boot_tag) × (r.place ≡ k))
      ↔ ((k ≡ 0) × Fits b s (disk_of b s) × lookups.GoodForm path × NoTag s)
  read_no_tag k =
      rw a.answer
      (Iff.trans (read_says (read.read_of (disk_of b s) s path o (length output)) fault.boot_tag k (λ e. omega arith))
      (unread.refused_tag b s path o (length output) k))

  -- the number is 0 or one of these
  pub read_number : r.number ∈ (0 ∷ read.read_refusals)
  read_number =
      rw a.answer (go (read.read_of (disk_of b s) s path o (length output))
      (read-numbers.number_listed (disk_of b s) s path o output _ output' a.call))
    where
      go : (x : Result ℕ Refusal) → ((f : Refusal) → x ≡ Err f → (read.numbers_of x).number ∈ read.read_refusals)
          → (read_numbers x).number ∈ (0 ∷ read.read_refusals)
      go (Ok n) h = inl refl
      go (Err f) h = inr (h f refl)

  -- a refused read leaves the output
  pub read_refused : r.number ≢ 0 → (output' ≡ output) × (r.count ≡ 0)
  read_refused z = go (read.read_of (disk_of b s) s path o (length output)) refl a.call.left
    where
      go : (x : Result ℕ Refusal) → read.read_of (disk_of b s) s path o (length output) ≡ x
          → output' ≡ read.output_after (disk_of b s) s path o output x → (output' ≡ output) × (r.count ≡ 0)
      go (Ok n) e c = absurd (z (read_answers.1 (n, e)))
      go (Err f) e c = let q = a.answer ∙ ap read_numbers e in (c, rw q refl)

-- ---- a program file: its check, a load and a move

-- 0 or one of these
program_number : (ns : List ℕ) (x : Answer) → ((f : Refusal) → x ≡ Err f → (numbers_of x).number ∈ ns)
    → (numbers_of x).number ∈ (0 ∷ ns)
program_number ns (Ok v) h = inl refl
program_number ns (Err f) h = inr (h f refl)

-- a number other than 0, with its place, is a refusal's
program_says : (x : Answer) (v k : ℕ) → v ≢ 0
    → (((numbers_of x).number ≡ v) × ((numbers_of x).place ≡ k)) ↔ (x ≡ Err (refusal v k))
program_says x v k z = (there x, λ e. rw e (refl, refl))
  where
    there : (y : Answer) → ((numbers_of y).number ≡ v) × ((numbers_of y).place ≡ k) → y ≡ Err (refusal v k)
    there (Ok v) (a, b) = absurd (z (sym a))
    there (Err f) (a, b) = ap₂ (λ (v k : ℕ). Err (refusal v k)) a b

-- what is accepted has the numbers of its answer
accepted_values : (x : Answer) (r : ProgramNumbers) → r ≡ program_numbers x → Accepts x
    → x ≡ accepted r.hunks r.bytes
accepted_values x r e (t, n, q) = let p = e ∙ ap program_numbers q in rw p q

-- the file holds hunks, and these are their number and the bytes that they take
abbrev pub HoldsAs : List ℕ → ProgramNumbers → Type 0
HoldsAs file r =
    (hs : List contents.Hunk) × contents.Holds file hs × (r.hunks ≡ length hs) × (r.bytes ≡ 4 * contents.total hs)

module _ (file : List ℕ) (r : ProgramNumbers) (a : r ≡ check_numbers file) where
  checks : Checks file (check_of file)
  checks = record { answer = refl; numbers = refl }

  -- the number is 0 if and only if the check accepts
  check_accepts : (r.number ≡ 0) ↔ Accepts (check_of file)
  check_accepts = rw a (check-numbers.zero_exactly file _ checks)

  -- the number is 0 if and only if the file holds hunks, so many that take so many bytes
  pub check_zero : (r.number ≡ 0) ↔ HoldsAs file r
  check_zero = (λ z. there ((page file).0 (check_accepts.0 z)), back)
    where
      there : (hs : List contents.Hunk) × contents.Holds file hs → HoldsAs file r
      there (hs, h) = let q = a ∙ ap program_numbers (page_accepted file hs h) in (hs, h, rw q refl, rw q refl)

      back : HoldsAs file r → r.number ≡ 0
      back (hs, h, t, n) = check_accepts.1 ((page file).1 (hs, h))

  -- another number v is given at place k if and only if `Says` holds of them
  pub check_refused_at : (v k : ℕ) → v ≢ 0 → ((r.number ≡ v) × (r.place ≡ k)) ↔ Faults file (refusal v k)
  check_refused_at v k z =
      rw a (Iff.trans (program_says (check_of file) v k z) (refused_exactly file (refusal v k)))

  -- the number is 0 or one of these
  pub check_number : r.number ∈ (0 ∷ check_refusals)
  check_number = rw a (program_number check_refusals (check_of file) (check-numbers.number_listed file _ checks))

  -- a refused check gives no values
  pub check_refused : r.number ≢ 0 → (r.hunks ≡ 0) × (r.bytes ≡ 0)
  check_refused z = go (check_of file) refl
    where
      go : (x : Answer) → check_of file ≡ x → (r.hunks ≡ 0) × (r.bytes ≡ 0)
      go (Ok v) e = absurd (z (check_accepts.1 (v.hunks, v.bytes, e)))
      go (Err f) e = rw (a ∙ ap program_numbers e) (refl, refl)

-- what is refused has no values, and what it was lent stays
refused_keeps : (x : Answer) (r : ProgramNumbers) (m n m' : List ℕ) (t u t' : List Hunk) → r ≡ program_numbers x
    → r.number ≢ 0 → m' ≡ effect x n m → t' ≡ kept x u t → (m' ≡ m) × (t' ≡ t) × (r.hunks ≡ 0) × (r.bytes ≡ 0)
refused_keeps (Ok v) r m n m' t u t' e z p q = absurd (z (ap (λ (v : ProgramNumbers). v.number) e))
refused_keeps (Err f) r m n m' t u t' e z p q = (p, q, rw e refl, rw e refl)

module _ (file m : List ℕ) (t : List Hunk) (w : List ℕ) (r : ProgramNumbers) (m' : List ℕ) (t' : List Hunk)
    (w' : List ℕ) where
  module _ (bases : List ℕ) (a : LoadsNumbers file bases m t w r m' t' w') where
    -- the number is 0 if and only if the answer is one that accepts
    pub load_accepts : (r.number ≡ 0) ↔ Accepts (loads_as file m t w bases)
    load_accepts = rw a.answer (hunk-numbers.load_zero_exactly file m t w _ m' t' w' bases a.call)

    -- the number is 0 if and only if the file holds hunks and `Takes` holds of them, with their number and bytes
    pub load_zero : (r.number ≡ 0)
        ↔ ((hs : List contents.Hunk) × contents.Holds file hs × Takes hs (bases ∷ []) (length m) (length t) (length w)
        r.hunks r.bytes)
    load_zero =
        let v = verdicts.load_accepted file bases (length m) (length t) (length w) r.hunks r.bytes in
        (λ z. v.0 (accepted_values _ r a.answer (load_accepts.0 z)), λ h. load_accepts.1 (_, _, v.1 h))

    -- its hunks and bytes are those that the check gives
    pub load_checked : r.number ≡ 0 → r ≡ check_numbers file
    load_checked z =
        let x = load_accepts.0 z in
        let l = (load_exactly file (length m) (length t) (length w) x.0 x.1 bases).0 x.2 in
        a.answer ∙ ap program_numbers (x.2 ∙ sym l.0)

    -- another number v is given at place k if and only if `CallWhy` holds of them
    pub load_refused_at : (v k : ℕ) → v ≢ 0
        → ((r.number ≡ v) × (r.place ≡ k)) ↔ CallWhy file (bases ∷ []) (length m) (length t) (length w)
        (refusal v k)
    load_refused_at v k z =
        rw a.answer (Iff.trans (program_says (loads_as file m t w bases) v k z)
        (verdicts.load_refused file bases (length m) (length t) (length w) (refusal v k)))

    -- the number is 0 or one of these
    pub load_number : r.number ∈ (0 ∷ call_refusals)
    load_number =
        rw a.answer (program_number call_refusals (loads_as file m t w bases)
        (hunk-numbers.load_listed file m t w _ m' t' w' bases a.call))

    -- a refused load leaves memory and table, and its work area comes back cleared
    pub load_refused : r.number ≢ 0
        → (m' ≡ m) × (t' ≡ t) × (w' ≡ replicate (length w) 0) × (r.hunks ≡ 0) × (r.bytes ≡ 0)
    load_refused z =
        let k =
        refused_keeps (loads_as file m t w bases) r m (load_of file bases m) m' t (hunks_of file bases t) t'
        a.answer z a.call.loaded a.call.recorded in
        (k.0, k.1, a.call.clean, k.2, k.3)

  module _ (old new : List ℕ) (a : MovesNumbers file old new m t w r m' t' w') where
    -- the number is 0 if and only if the answer is one that accepts
    pub move_accepts : (r.number ≡ 0) ↔ Accepts (moves_as file m t w old new)
    move_accepts = rw a.answer (hunk-numbers.move_zero_exactly file m t w _ m' t' w' old new a.call)

    -- the number is 0 if and only if the file holds hunks and `Takes` holds of them, with their number and bytes
    pub move_zero : (r.number ≡ 0)
        ↔ ((hs : List contents.Hunk) × contents.Holds file hs × Takes hs (old ∷ new ∷ []) (length m) (length t)
        (length w)
        r.hunks r.bytes)
    move_zero =
        let v = verdicts.move_accepted file old new (length m) (length t) (length w) r.hunks r.bytes in
        (λ z. v.0 (accepted_values _ r a.answer (move_accepts.0 z)), λ h. move_accepts.1 (_, _, v.1 h))

    -- its hunks and bytes are those that the check gives
    pub move_checked : r.number ≡ 0 → r ≡ check_numbers file
    move_checked z =
        let x = move_accepts.0 z in
        let l = ((move_exactly file (length m) (length t) (length w) x.0 x.1 old new).0 x.2).0 in
        let k = (load_exactly file (length m) (length t) (length w) x.0 x.1 old).0 l in
        a.answer ∙ ap program_numbers (x.2 ∙ sym k.0)

    -- another number v is given at place k if and only if `CallWhy` holds of them
    pub move_refused_at : (v k : ℕ) → v ≢ 0
        → ((r.number ≡ v) × (r.place ≡ k)) ↔ CallWhy file (old ∷ new ∷ []) (length m) (length t) (length w)
        (refusal v k)
    move_refused_at v k z =
        rw a.answer (Iff.trans (program_says (moves_as file m t w old new) v k z)
        (verdicts.move_refused file old new (length m) (length t) (length w) (refusal v k)))

    -- the number is 0 or one of these
    pub move_number : r.number ∈ (0 ∷ call_refusals)
    move_number =
        rw a.answer (program_number call_refusals (moves_as file m t w old new)
        (hunk-numbers.move_listed file m t w _ m' t' w' old new a.call))

    -- a refused move leaves memory and table, and its work area comes back cleared
    pub move_refused : r.number ≢ 0
        → (m' ≡ m) × (t' ≡ t) × (w' ≡ replicate (length w) 0) × (r.hunks ≡ 0) × (r.bytes ≡ 0)
    move_refused z =
        let k =
        refused_keeps (moves_as file m t w old new) r m (move_of file old new m) m' t (hunks_of file new t) t'
        a.answer z a.call.shifted a.call.recorded in
        (k.0, k.1, a.call.clean, k.2, k.3)

-- The answers of audit, find and read as C meets them. Each struct holds the numbers of the answer, by the call's own
-- `numbers_of`.
use Rattle.std.specs.Prelude.{Result, ℕ, ◌≡◌, List, length}
use Rattle.answers.specs.declared.Refusal.{Refusal}
use Rattle.volume.specs.Disks.{disk_of}
use Rattle.audit.specs.declared.audit.Report.{Report}
use Rattle.audit.specs.Audits as audit
use Rattle.lookup.specs.declared.find.Found.{Found}
use Rattle.lookup.specs.Lookup as lookup
use Rattle.reading.specs.Reads as read
use Rattle.jufferdeeg.specs.declared.volumes.AuditNumbers.{AuditNumbers}
use Rattle.jufferdeeg.specs.declared.volumes.FindNumbers.{FindNumbers}
use Rattle.jufferdeeg.specs.declared.volumes.ReadNumbers.{ReadNumbers}

abbrev pub audit_numbers : Result Report Refusal → AuditNumbers
audit_numbers a =
    let n = audit.numbers_of a in
    record {
      number = n.number;
      place = n.place;
      directories = n.values.directories;
      files = n.values.files;
      list_blocks = n.values.lists;
      data_blocks = n.values.blocks;
      used = n.values.used;
      free = n.values.free;
    }

abbrev pub find_numbers : Result Found Refusal → FindNumbers
find_numbers a =
    let n = lookup.numbers_of a in
    record {
      number = n.number;
      place = n.place;
      kind = n.values.kind;
      key = n.values.key;
      size = n.values.size;
      compared = n.values.compared;
    }

abbrev pub read_numbers : Result ℕ Refusal → ReadNumbers
read_numbers a =
    let n = read.numbers_of a in record { number = n.number; place = n.place; count = n.values }

-- ---- the promises: those of the call that it makes, and its answer's numbers

-- Each call is lent an image s and names a number b of blocks.

-- of an audit with a claim area of n bytes
pub record AuditsImage (b : ℕ) (s : List ℕ) (n : ℕ) (r : AuditNumbers) (claim' : List ℕ) : Type 0 where
  pub answer : r ≡ audit_numbers (audit.audit_of (disk_of b s) s n)
  pub call : audit.Audits (disk_of b s) s n (audit.audit_of (disk_of b s) s n) claim'

abbrev pub find_in_image : ℕ → List ℕ → List ℕ → FindNumbers
find_in_image b s path = find_numbers (lookup.find_of (disk_of b s) s path)

-- of a read at offset o
pub record ReadsImage (b : ℕ) (s path : List ℕ) (o : ℕ) (output : List ℕ) (r : ReadNumbers) (output' : List ℕ)
    : Type 0 where
  pub answer : r ≡ read_numbers (read.read_of (disk_of b s) s path o (length output))
  pub call : read.Reads (disk_of b s) s path o output (read.read_of (disk_of b s) s path o (length output)) output'

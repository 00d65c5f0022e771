-- A call's promise and its answer's numbers are the promise of the exported call. Assumes nothing.
use Prim.Native.Nat.{ℕ}
use mathlib.Core.Path.{◌≡◌, ap, subst, ◌∙◌}
use mathlib.Core.List.{List}
use Rattle.std.specs.Prelude.{Result}
use Rattle.volume.specs.Disks.{disk_of}
use Rattle.answers.specs.declared.Refusal.{Refusal}
use Rattle.audit.specs.declared.audit.Report.{Report}
use Rattle.audit.specs.Audits.{Audits}
use Rattle.reading.specs.Reads.{Reads}
use Rattle.program.specs.Check.{Answer}
use Rattle.hunks.specs.declared.Hunk.{Hunk}
use Rattle.hunks.specs.Calls.{Loads, Moves}
use Rattle.jufferdeeg.specs.declared.volumes.AuditNumbers.{AuditNumbers}
use Rattle.jufferdeeg.specs.declared.volumes.ReadNumbers.{ReadNumbers}
use Rattle.jufferdeeg.specs.declared.programs.ProgramNumbers.{ProgramNumbers}
use Rattle.jufferdeeg.specs.Volumes.{audit_numbers, read_numbers, AuditsImage, ReadsImage}
use Rattle.jufferdeeg.specs.Programs.{program_numbers, LoadsNumbers, MovesNumbers}

pub audits : (b : ℕ) (s : List ℕ) (n : ℕ) (a : Result Report Refusal) (r : AuditNumbers) (claim' : List ℕ)
    → Audits (disk_of b s) s n a claim' → r ≡ audit_numbers a → AuditsImage b s n r claim'
audits b s n a r claim' h e =
    record {
      answer = e ∙ ap audit_numbers h.answer;
      call = subst (λ x. Audits (disk_of b s) s n x claim') h.answer h;
    }

pub reads : (b : ℕ) (s path : List ℕ) (o : ℕ) (output : List ℕ) (a : Result ℕ Refusal) (r : ReadNumbers)
    (output' : List ℕ) → Reads (disk_of b s) s path o output a output' → r ≡ read_numbers a
    → ReadsImage b s path o output r output'
reads b s path o output a r output' h e =
    record {
      answer = e ∙ ap read_numbers h.answer;
      call = subst (λ x. Reads (disk_of b s) s path o output x output') h.answer h;
    }

module _ (file : List ℕ) (m : List ℕ) (t : List Hunk) (w : List ℕ) (a : Answer) (r : ProgramNumbers) (m' : List ℕ)
    (t' : List Hunk) (w' : List ℕ) where
  pub loads : (bases : List ℕ) → Loads file bases m t w a m' t' w' → r ≡ program_numbers a
      → LoadsNumbers file bases m t w r m' t' w'
  loads bases h e =
      record {
        answer = e ∙ ap program_numbers h.answer;
        call = subst (λ x. Loads file bases m t w x m' t' w') h.answer h;
      }

  pub moves : (old new : List ℕ) → Moves file old new m t w a m' t' w' → r ≡ program_numbers a
      → MovesNumbers file old new m t w r m' t' w'
  moves old new h e =
      record {
        answer = e ∙ ap program_numbers h.answer;
        call = subst (λ x. Moves file old new m t w x m' t' w') h.answer h;
      }

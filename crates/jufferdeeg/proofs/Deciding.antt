-- An exported call has one outcome for one input: the numbers, and every lent byte afterwards. Assumes nothing.
use Prim.Native.Nat.{ℕ}
use mathlib.Core.Path.{◌≡◌, sym, ◌∙◌}
use mathlib.Core.List.{List}
use Rattle.hunks.specs.declared.Hunk.{Hunk}
use Rattle.jufferdeeg.specs.declared.volumes.AuditNumbers.{AuditNumbers}
use Rattle.jufferdeeg.specs.declared.volumes.FindNumbers.{FindNumbers}
use Rattle.jufferdeeg.specs.declared.volumes.ReadNumbers.{ReadNumbers}
use Rattle.jufferdeeg.specs.declared.programs.ProgramNumbers.{ProgramNumbers}
use Rattle.jufferdeeg.specs.Volumes.{find_in_image, AuditsImage, ReadsImage}
use Rattle.jufferdeeg.specs.Programs.{check_numbers, LoadsNumbers, MovesNumbers}
use Rattle.jufferdeeg.specs.Reasons.{Reasons}

pub audit_crosses : (b : ℕ) (s : List ℕ) (n : ℕ) (r r' : AuditNumbers) (c c' : List ℕ) → AuditsImage b s n r c
    → AuditsImage b s n r' c' → (r ≡ r') × (c ≡ c')
audit_crosses b s n r r' c c' h h' = (h.answer ∙ sym h'.answer, h.call.claim ∙ sym h'.call.claim)

pub find_crosses : (b : ℕ) (s path : List ℕ) (r r' : FindNumbers) → r ≡ find_in_image b s path
    → r' ≡ find_in_image b s path → r ≡ r'
find_crosses b s path r r' h h' = h ∙ sym h'

pub read_crosses : (b : ℕ) (s path : List ℕ) (o : ℕ) (output : List ℕ) (r r' : ReadNumbers) (a a' : List ℕ)
    → ReadsImage b s path o output r a → ReadsImage b s path o output r' a' → (r ≡ r') × (a ≡ a')
read_crosses b s path o output r r' a a' h h' = (h.answer ∙ sym h'.answer, h.call.left ∙ sym h'.call.left)

pub check_crosses : (file : List ℕ) (r r' : ProgramNumbers) → r ≡ check_numbers file → r' ≡ check_numbers file
    → r ≡ r'
check_crosses file r r' h h' = h ∙ sym h'

module _ (file m : List ℕ) (t : List Hunk) (w : List ℕ) (r r' : ProgramNumbers) (m1 : List ℕ) (t1 : List Hunk)
    (w1 m2 : List ℕ) (t2 : List Hunk) (w2 : List ℕ) where
  pub load_crosses : (bases : List ℕ) → LoadsNumbers file bases m t w r m1 t1 w1
      → LoadsNumbers file bases m t w r' m2 t2 w2 → (r ≡ r') × (m1 ≡ m2) × (t1 ≡ t2) × (w1 ≡ w2)
  load_crosses bases h h' = (
    h.answer ∙ sym h'.answer,
    h.call.loaded ∙ sym h'.call.loaded,
    h.call.recorded
        ∙ sym h'.call.recorded,
    h.call.clean ∙ sym h'.call.clean,
  )

  pub move_crosses : (old new : List ℕ) → MovesNumbers file old new m t w r m1 t1 w1
      → MovesNumbers file old new m t w r' m2 t2 w2 → (r ≡ r') × (m1 ≡ m2) × (t1 ≡ t2) × (w1 ≡ w2)
  move_crosses old new h h' = (
    h.answer ∙ sym h'.answer,
    h.call.shifted ∙ sym h'.call.shifted,
    h.call.recorded
        ∙ sym h'.call.recorded,
    h.call.clean ∙ sym h'.call.clean,
  )

pub reason_crosses : (n : ℕ) (output : List ℕ) (r r' : ℕ) (a a' : List ℕ) → Reasons n output r a
    → Reasons n output r' a'
    → (r ≡ r') × (a ≡ a')
reason_crosses n output r r' a a' h h' = (h.answer ∙ sym h'.answer, h.left ∙ sym h'.left)

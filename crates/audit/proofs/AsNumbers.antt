-- The answer of an audit as numbers: which numbers a refusal has, and that 0 is no refusal. Assumes nothing.
use Rattle.std.specs.Prelude.{Result, Ok, Err}
use Prim.Native.Nat.{ℕ}
use mathlib.Core.Path.{◌≡◌, refl, sym, ◌∙◌}
use mathlib.Core.Logic.{◌↔◌}
use mathlib.Core.List.{List}
use Rattle.answers.specs.declared.Refusal.{Refusal}
use Rattle.answers.specs.Members.{◌∈◌}
use Rattle.answers.proofs.Members.{unlisted}
use Rattle.answers.proofs.Clashes.{impossible}
use Rattle.volume.specs.declared.disk.Disk.{Disk}
use Rattle.audit.specs.declared.audit.Report.{Report}
use Rattle.audit.specs.Audits.{numbers_of, audit_refusals, Audits}
use Rattle.audit.proofs.Refusing.{refused_number}

module _ (d : Disk) (s : List ℕ) (n : ℕ) (r : Result Report Refusal) (claim' : List ℕ) (a : Audits d s n r claim') where
  -- a refusal's number is one of these
  pub number_listed : (x : Refusal) → r ≡ Err x → (numbers_of r).number ∈ audit_refusals
  number_listed x e = rw e (refused_number d s n x.number x.place (sym a.answer ∙ e))

  -- the number is 0 if and only if the audit accepts
  pub zero_exactly : ((numbers_of r).number ≡ 0) ↔ ((p : Report) × (r ≡ Ok p))
  zero_exactly = go r number_listed
    where
      go : (r : Result Report Refusal) → ((x : Refusal) → r ≡ Err x → (numbers_of r).number ∈ audit_refusals)
          → ((numbers_of r).number ≡ 0) ↔ ((p : Report) × (r ≡ Ok p))
      go (Ok p) h = (λ z. (p, refl), λ q. refl)
      go (Err x) h = (λ z. unlisted audit_refusals x.number 0 tt (h x refl) z, λ q. impossible cc)

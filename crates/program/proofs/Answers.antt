-- Answers that differ are never equal. Assumes nothing.
use Prim.Native.Nat.{ℕ}
use mathlib.Core.Path.{◌≡◌, ap}
use Rattle.std.specs.Prelude.{Result, Ok, Err}
use Rattle.answers.specs.declared.Refusal.{Refusal}
use Rattle.answers.proofs.Clashes.{impossible}
use Rattle.program.specs.declared.check.Extent.{Extent}
use Rattle.program.specs.Check.{Answer, accepted}

-- an answer that accepts, by its numbers
extent_or : Extent → Answer → Extent
extent_or d (Ok v) = v
extent_or d (Err r) = d

pub accepted_same : (a b t n : ℕ) → accepted a b ≡ accepted t n → (a ≡ t) × (b ≡ n)
unfolding extent_or
accepted_same a b t n e =
    let d : Extent = record { hunks = t; bytes = n } in
    (ap (λ x. (extent_or d x).hunks) e, ap (λ x. (extent_or d x).bytes) e)

pub not_accepted : {A : Type 0} {r : Refusal} {t n : ℕ} → Err r ≡ accepted t n → A
not_accepted e = impossible cc

pub not_refused : {A : Type 0} {r : Refusal} {t n : ℕ} → accepted t n ≡ Err r → A
not_refused e = impossible cc

pub not_failed : {A : Type 0} {r : Refusal} → ◌≡◌ {A = Result Unit Refusal} (Ok tt) (Err r) → A
not_failed e = impossible cc

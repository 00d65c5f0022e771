-- The answer of a read as numbers: which numbers a refusal has, and that 0 is no refusal. Assumes nothing.
use Rattle.std.specs.Prelude.{Result, Ok, Err}
use Prim.Native.Nat.{ℕ}
use mathlib.Core.Path.{◌≡◌, refl, sym, ◌∙◌}
use mathlib.Core.Logic.{◌↔◌, ⊎_elim}
use mathlib.Core.List.{List}
use lib.ListN.{length}
use Rattle.answers.specs.declared.Refusal.{Refusal}
use Rattle.answers.specs.Members.{◌∈◌}
use Rattle.answers.proofs.Members.{unlisted, in_part}
use Rattle.answers.proofs.Clashes.{impossible}
use Rattle.volume.specs.declared.disk.Disk.{Disk}
use Rattle.lookup.specs.Lookup.{find_refusals}
use Rattle.lookup.proofs.AsNumbers as lookup
use Rattle.reading.specs.Reads.{numbers_of, read_refusals, refuse, read_of, Reads}
use Rattle.reading.proofs.Refusing.{refused_exactly, after_lookup, after_lookup_lem}

module _ (d : Disk) (s path : List ℕ) (o n v k : ℕ) where
  -- a refusal's number is one of these
  pub refused_number : read_of d s path o n ≡ refuse v k → v ∈ read_refusals
  refused_number e =
      ⊎_elim (λ f. in_part find_refusals read_refusals v tt (lookup.refused_number d s path v k f))
      (λ m. in_part after_lookup read_refusals v tt m)
      (after_lookup_lem d s path v k ((refused_exactly d s path o n v k).0 e))

module _ (d : Disk) (s path : List ℕ) (o : ℕ) (output : List ℕ) (r : Result ℕ Refusal) (output' : List ℕ)
    (a : Reads d s path o output r output') where
  pub number_listed : (x : Refusal) → r ≡ Err x → (numbers_of r).number ∈ read_refusals
  number_listed x e = rw e (refused_number d s path o (length output) x.number x.place (sym a.answer ∙ e))

  -- the number is 0 if and only if bytes are read
  pub zero_exactly : ((numbers_of r).number ≡ 0) ↔ ((n : ℕ) × (r ≡ Ok n))
  zero_exactly = go r number_listed
    where
      go : (r : Result ℕ Refusal) → ((x : Refusal) → r ≡ Err x → (numbers_of r).number ∈ read_refusals)
          → ((numbers_of r).number ≡ 0) ↔ ((n : ℕ) × (r ≡ Ok n))
      go (Ok n) h = (λ z. (n, refl), λ q. refl)
      go (Err x) h = (λ z. unlisted read_refusals x.number 0 tt (h x refl) z, λ q. impossible cc)

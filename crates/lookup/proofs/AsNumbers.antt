-- The answer of a lookup as numbers: which numbers a refusal has, and that 0 is no refusal. Assumes nothing.
use Prim.Native.Nat.{ℕ}
use mathlib.Core.Path.{◌≡◌, refl, sym, ◌∙◌}
use mathlib.Core.Logic.{◌↔◌, ◌⊎◌, inl, inr}
use mathlib.Core.List.{List}
use Rattle.std.specs.Prelude.{Result, Ok, Err}
use Rattle.answers.specs.Numbers as fault
use Rattle.answers.specs.declared.Refusal.{Refusal}
use Rattle.answers.specs.Members.{◌∈◌}
use Rattle.answers.proofs.Members.{listed, unlisted, in_part}
use Rattle.answers.proofs.Clashes.{impossible}
use Rattle.volume.specs.declared.disk.Disk.{Disk}
use Rattle.volume.proofs.Given.{root_refusals, entry_refusals, root_number, entry_number}
use Rattle.lookup.specs.declared.find.Found.{Found}
use Rattle.lookup.specs.declared.find.Found.TheVariants.{Directory, File}
use Rattle.lookup.specs.Lookup.{numbers_of, find_refusals, refuse, find_of, Finds}
use Rattle.lookup.specs.Verdicts.{Refuses, number_1, number_18, number_3, of_root, number_5, number_6, of_entry}
use Rattle.lookup.specs.Verdicts.{number_19, number_20}
use Rattle.lookup.proofs.Refusing.{refused_exactly}

module _ (d : Disk) (s path : List ℕ) (v k : ℕ) where
  -- a refusal's number is one of these
  pub refused_number : find_of d s path ≡ refuse v k → v ∈ find_refusals
  refused_number e = go ((refused_exactly d s path v k).0 e)
    where
      go : Refuses d s path v k → v ∈ find_refusals
      go (number_1 h a b) = rw a (listed find_refusals fault.image_length tt)
      go (number_18 h f a) = rw a (listed find_refusals fault.path_form tt)
      go (number_3 h p u a b) = rw a (listed find_refusals fault.boot_tag tt)
      go (of_root h p u z b) = in_part root_refusals find_refusals v tt (root_number z)
      go (number_5 h y a) = rw a (listed find_refusals fault.bad_key tt)
      go (number_6 h y l a) = rw a (listed find_refusals fault.claimed_twice tt)
      go (of_entry h y l z) = in_part entry_refusals find_refusals v tt (entry_number z)
      go (number_19 h a) = rw a (listed find_refusals fault.not_found tt)
      go (number_20 h a) = rw a (listed find_refusals fault.wrong_kind tt)

module _ (d : Disk) (s path : List ℕ) (r : Result Found Refusal) (a : Finds d s path r) where
  -- a refusal's number is one of these
  pub number_listed : (x : Refusal) → r ≡ Err x → (numbers_of r).number ∈ find_refusals
  number_listed x e = rw e (refused_number d s path x.number x.place (sym a.answer ∙ e))

  -- the number is 0 if and only if a directory or a file is found
  pub zero_exactly : ((numbers_of r).number ≡ 0)
      ↔ (((k : ℕ) × (n : ℕ) × (r ≡ Ok (Directory k n))) ⊎ ((k : ℕ) × (z : ℕ) × (n : ℕ) × (r ≡ Ok (File k z n))))
  zero_exactly = go r number_listed
    where
      go : (r : Result Found Refusal) → ((x : Refusal) → r ≡ Err x → (numbers_of r).number ∈ find_refusals)
          → ((numbers_of r).number ≡ 0)
          ↔ (((k : ℕ) × (n : ℕ) × (r ≡ Ok (Directory k n))) ⊎ ((k : ℕ) × (z : ℕ) × (n : ℕ) × (r ≡ Ok (File k z n))))
      go (Ok (Directory k n)) h = (λ _. inl (k, n, refl), λ _. refl)
      go (Ok (File k z n)) h = (λ _. inr (k, z, n, refl), λ _. refl)
      go (Err x) h = (λ z. unlisted find_refusals x.number 0 tt (h x refl) z, none)
        where
          none : ((k : ℕ) × (n : ℕ) × (Err x ≡ Ok (Directory k n)))
              ⊎ ((k : ℕ) × (z : ℕ) × (n : ℕ) × (Err x ≡ Ok (File k z n)))
              → x.number ≡ 0
          none (inl (k, n, e)) = impossible cc
          none (inr (k, z, n, e)) = impossible cc

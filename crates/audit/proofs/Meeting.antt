-- Claims, and blocks that are met: what each return of the code says of the walk. Assumes nothing.
use Rattle.std.specs.Prelude.{Result, Ok, Err}
use Prim.Native.Nat.{ℕ, zero, suc, ◌≤◌, ◌<◌}
use mathlib.Core.Path.{◌≡◌, refl, sym, ap, ap₂, ◌∙◌}
use mathlib.Core.Bool.{Bool, true, false}
use mathlib.Core.List.{List}
use native.Mathlib.Omega.{arith}
use lib.ListN.{length, get_or, set}
use Rattle.answers.specs.Numbers as fault
use Rattle.answers.specs.declared.Fault.{Fault}
use Rattle.answers.specs.declared.Refusal.{Refusal}
use Rattle.answers.specs.Refusals.{refusal, told}
use Rattle.answers.specs.Tests.{first, must}
use Rattle.answers.proofs.Clashes.{impossible}
use Rattle.answers.proofs.Tests.{first_zero, first_refuses, go, told_ok, told_err}
use Rattle.reach.specs.Walk.{claimed, verdict}
use Rattle.reach.proofs.Claims.{byte_any}
use Rattle.reach.proofs.Runs.{claimed_taken}
use Rattle.volume.specs.declared.disk.Disk.{Disk}
use Rattle.volume.specs.Disks.{first_key, is_old, in_range, claim_bytes, root_of}
use Rattle.volume.specs.Files.{size_of}
use Rattle.volume.specs.Rules.{root_fault, map_fault, bitmap_fault}
use Rattle.volume.proofs.Sizes.{range_is}
use Rattle.volume.proofs.Faults.{data_unasked}
use Rattle.walk.proofs.Passes.{key_passed}
use Rattle.walk.specs.Nodes.{Node, root, bitmap, entry, datum, key_of, key_fault, hangs_fault, fault_of}
use Rattle.audit.specs.Walks.{claim_fault, Claims, Meets, Met, placed, verdict_at}

-- ---- two tests, one after the other

module _ (f a b : ℕ) (e : f ≡ a) where
  pub first_stops : (f ≡ 0 → ⊥) → f ≡ first a b
  first_stops h = e ∙ sym (first_refuses a b (omega arith))

  pub first_goes : (r : ℕ) → f ≡ 0 → r ≡ b → r ≡ first a b
  first_goes r z q = go r a b (sym e ∙ z) q

-- ---- a claim

module _ (d : Disk) (cl : List ℕ) (k : ℕ) where
  pub claim_room : (b : Bool) → b ≡ in_range d k → b ≡ true → length cl ≡ claim_bytes d → k < length cl
  claim_room b e h l = omega (arith, range_is d k (sym e ∙ h))

  pub claim_out : (b : Bool) → b ≡ in_range d k → b ≡ false → Claims d cl k fault.bad_key cl
  unfolding first must
  claim_out b e h = record { told = rw (sym e ∙ h); claims = λ z. absurd (omega (arith, z)); keeps = λ t. refl }

  pub claim_taken : (b : Bool) → b ≡ in_range d k → b ≡ true → k < length cl → (get_or cl k 0 ≡ 0 → ⊥)
      → Claims d cl k fault.claimed_twice cl
  unfolding first must
  claim_taken b e h l t =
      record {
        told = rw (sym e ∙ h, byte_any cl k 1 0 l, claimed_taken fault.claimed_twice (get_or cl k 0) t);
        claims = λ z. absurd (omega (arith, z));
        keeps = λ t. refl;
      }

  pub claim_new : (b : Bool) → b ≡ in_range d k → b ≡ true → k < length cl → get_or cl k 0 ≡ 0
      → Claims d cl k 0 (set cl k 1)
  unfolding first must
  claim_new b e h l z =
      record { told = rw (sym e ∙ h, byte_any cl k 1 0 l, z); claims = λ _. refl; keeps = λ t. absurd (t refl) }

module _ (d : Disk) (cl : List ℕ) (k : ℕ) where
  -- a key that is claimed lies in the volume
  claimed_range : claim_fault d cl k ≡ 0 → (first_key ≤ k) × (k < d.blocks)
  claimed_range z = key_passed d k (first_zero (key_fault d k) _ z).0

  pub claims_range : (cl' : List ℕ) (c : Result Unit Fault) {u : Unit {0}} → Claims d cl k (told c) cl' → c ≡ Ok u
      → (first_key ≤ k) × (k < d.blocks)
  claims_range cl' c h e = claimed_range (sym h.told ∙ told_ok c e)

-- ---- a number that is said of a block

not_zero : (v k : ℕ) → (v ≡ 0 → ⊥) → verdict_at v k ≡ Err (refusal v k)
not_zero zero k h = absurd (h refl)
not_zero (suc v) k h = refl

placed_at : (k : ℕ) (t : Result Unit Fault) → placed k t ≡ verdict_at (told t) k
placed_at k (Ok u) = refl
placed_at k (Err f) = sym (not_zero (told (Err f)) k (told_err (Err f) refl))

-- ---- a block that is met: its tests may come to what T says

module _ (d : Disk) (s : List ℕ) (n : Node) (cl cl' : List ℕ) (T : Result Unit Fault → Type 0)
    (r : Result Unit Refusal) where
  told_as : Meets d cl (key_of d n) (key_of d n) T r cl' → ((t : Result Unit Fault) → T t → told t ≡ fault_of d s n)
      → (a b : ℕ) → key_fault d (key_of d n) ≡ a
      → claimed fault.claimed_twice (get_or cl (key_of d n) 1) ≡ b
      → r ≡ verdict_at (first a (first b (fault_of d s n))) (key_of d n)
  unfolding first
  told_as h f zero zero p q =
      let e : claim_fault d cl (key_of d n) ≡ 0 = ap₂ first p q in
      let t = h.tested e in
      t.2 ∙ placed_at (key_of d n) t.0 ∙ ap (λ (v : ℕ). verdict_at v (key_of d n)) (f t.0 t.1)
  told_as h f zero (suc b) p q =
      let e : claim_fault d cl (key_of d n) ≡ suc b = ap₂ first p q in
      rw e at (h.refused (λ z. absurd (omega (arith, e, z))))
  told_as h f (suc a) b p q =
      let e : claim_fault d cl (key_of d n) ≡ suc a = ap₂ first p q in
      rw e at (h.refused (λ z. absurd (omega (arith, e, z))))

  claims_as : Meets d cl (key_of d n) (key_of d n) T r cl' → r ≡ Ok tt → (v : ℕ) → claim_fault d cl (key_of d n) ≡ v
      → cl' ≡ set cl (key_of d n) 1
  claims_as h e zero z = h.claims z
  claims_as h e (suc v) z = let q = h.refused (λ y. absurd (omega (arith, z, y))) in impossible cc

  pub met : (k : ℕ) → k ≡ key_of d n → Meets d cl k k T r cl'
      → ((t : Result Unit Fault) → T t → told t ≡ fault_of d s n) → Met d s n cl r cl'
  unfolding verdict
  met k e h f =
      let m : Meets d cl (key_of d n) (key_of d n) T r cl' = rw e at h in
      record { told = told_as m f _ _ refl refl; claims = λ q. claims_as m q _ refl }

module _ (d : Disk) (s cl cl' : List ℕ) (T : Result Unit Fault → Type 0) (r : Result Unit Refusal) (k : ℕ)
    (h : Meets d cl k k T r cl') where
  pub met_root : k ≡ root_of d → ((t : Result Unit Fault) → T t → told t ≡ first (root_fault d s) (map_fault d s))
      → Met d s root cl r cl'
  unfolding fault_of
  met_root e f = met d s root cl cl' T r k e h f

  pub met_bitmap : ((t : Result Unit Fault) → T t → told t ≡ bitmap_fault s k) → Met d s (bitmap k) cl r cl'
  unfolding fault_of
  met_bitmap f = met d s (bitmap k) cl cl' T r k refl h f

  pub met_entry : (u i p : ℕ) → ((t : Result Unit Fault) → T t → told t ≡ hangs_fault d s k u i p)
      → Met d s (entry k u i p) cl r cl'
  unfolding fault_of
  met_entry u i p f = met d s (entry k u i p) cl cl' T r k refl h f

-- a data block where none has tests
pub data_plain : (d : Disk) (s : List ℕ) (k h n c : ℕ) (t : Bool) → t ≡ is_old d → t ≡ false
    → 0 ≡ fault_of d s (datum k h n c)
unfolding fault_of
data_plain d s k h n c t q o = data_unasked d s k h (size_of s h) n c t q o

-- What a refused audit says: `refused_exactly`, `refused_number`, and each number by itself (`refused_1`,
-- `refused_2`, `refused_3` and `refused_tag`, `refused_walk` with `refused_cause`, `refused_17`). Assumes nothing.
use Prim.Native.Nat.{ℕ, ◌≤◌, ◌<◌}
use mathlib.Core.Path.{◌≡◌, subst}
use mathlib.Core.Logic.{◌≢◌, ◌↔◌}
use mathlib.Core.List.{List}
use lib.ListN.{length}
use Rattle.answers.specs.Numbers as fault
use Rattle.answers.specs.Tests.{pick}
use Rattle.answers.specs.Members.{◌∈◌}
use Rattle.answers.proofs.Members.{listed, in_part}
use Rattle.words.specs.Word.{word_at}
use Rattle.volume.specs.declared.disk.Disk.{Disk}
use Rattle.volume.specs.Disks.{image_bytes, claim_bytes, tag_of, disk_of, Fits, Unfit, NoTag}
use Rattle.volume.specs.Law.{Tree, Valid}
use Rattle.volume.proofs.Disks.{long_fits, unfit, no_tag}
use Rattle.walk.specs.Refusals.{FirstRefusal, Cause}
use Rattle.walk.proofs.Refuses.{refused_first}
use Rattle.walk.proofs.Causes as causes
use Rattle.audit.specs.Audits.{walk_refusals, audit_refusals, refuse, audit_of}
use Rattle.audit.specs.Verdicts.{FirstWrong, Opened, Test, size, area, tag, walk, bits, test_of, Says}
use Rattle.audit.proofs.Answers.{answers_exactly}
use Rattle.audit.proofs.Numbers.{Numbered, walk_number, numbered, by_walk}

caused : (d : Disk) (s : List ℕ) (v k : ℕ) → FirstRefusal d s v k → Cause d s v k
caused d s v k w = causes.refused_cause d s v k ((refused_first d s v k).1 w)

module _ (d : Disk) (s : List ℕ) (n v k : ℕ) where
  pub refused_exactly : (audit_of d s n ≡ refuse v k) ↔ Says d s n v k (test_of v)
  refused_exactly = answers_exactly d s n (refuse v k)

  pub refused_number : audit_of d s n ≡ refuse v k → v ∈ audit_refusals
  refused_number r = go (test_of v) (numbered v) (refused_exactly.0 r)
    where
      go : (t : Test) → Numbered v t → Says d s n v k t → v ∈ audit_refusals
      go size e c = rw e (listed audit_refusals fault.image_length tt)
      go area e c = rw e (listed audit_refusals fault.claim_area tt)
      go tag e c = rw e (listed audit_refusals fault.boot_tag tt)
      go walk e c = in_part walk_refusals audit_refusals v tt (walk_number d s v k (caused d s v k c.1))
      go bits e c = rw e (listed audit_refusals fault.wrong_bit tt)

  -- the walk's are given exactly at the first node that fails, and each names a field of the law that its block breaks
  module _ (h : v ∈ walk_refusals) where
    pub refused_walk : (audit_of d s n ≡ refuse v k) ↔ (Opened d s n × FirstRefusal d s v k)
    refused_walk = subst (λ (t : Test). (audit_of d s n ≡ refuse v k) ↔ Says d s n v k t) (by_walk v h) refused_exactly

    pub refused_cause : audit_of d s n ≡ refuse v k → Cause d s v k
    refused_cause r = caused d s v k (refused_walk.0 r).1

-- ---- each number by itself

module _ (d : Disk) (s : List ℕ) (n k : ℕ) where
  pub refused_1 : (audit_of d s n ≡ refuse fault.image_length k) ↔ ((k ≡ 0) × (length s ≢ image_bytes d))
  unfolding pick
  refused_1 = refused_exactly d s n fault.image_length k

  pub refused_2 : (audit_of d s n ≡ refuse fault.claim_area k)
      ↔ ((k ≡ 0) × (length s ≡ image_bytes d) × (n < claim_bytes d))
  unfolding pick
  refused_2 = refused_exactly d s n fault.claim_area k

  pub refused_3 : (audit_of d s n ≡ refuse fault.boot_tag k)
      ↔ ((k ≡ 0) × (length s ≡ image_bytes d) × (claim_bytes d ≤ n) × (word_at s 0 ≢ tag_of d))
  unfolding pick
  refused_3 = refused_exactly d s n fault.boot_tag k

  pub refused_17 : (audit_of d s n ≡ refuse fault.wrong_bit k)
      ↔ ((claim_bytes d ≤ n) × Tree d s × Valid d s × FirstWrong d s k)
  unfolding pick
  refused_17 = refused_exactly d s n fault.wrong_bit k

-- Of a call that names b: 1 if and only if no disk fits, 2 if and only if one does and the claim area has not a byte
-- for each of its blocks, and 3 if and only if the image has the boot tag of none.
module _ (b : ℕ) (s : List ℕ) (n k : ℕ) where
  pub refused_unfit : (audit_of (disk_of b s) s n ≡ refuse fault.image_length k) ↔ ((k ≡ 0) × Unfit b s)
  refused_unfit =
      let r = refused_1 (disk_of b s) s n k in
      let u = unfit b s in
      (λ e. let (q, l) = r.0 e in (q, u.0 l), λ (q, l). r.1 (q, u.1 l))

  pub refused_short : (audit_of (disk_of b s) s n ≡ refuse fault.claim_area k)
      ↔ ((k ≡ 0) × Fits b s (disk_of b s) × (n < claim_bytes (disk_of b s)))
  refused_short =
      let r = refused_2 (disk_of b s) s n k in
      (λ e. let (q, l, h) = r.0 e in (q, long_fits b s l, h), λ (q, f, h). r.1 (q, f.long, h))

  pub refused_tag : (audit_of (disk_of b s) s n ≡ refuse fault.boot_tag k)
      ↔ ((k ≡ 0) × Fits b s (disk_of b s) × (claim_bytes (disk_of b s) ≤ n) × NoTag s)
  refused_tag =
      let r = refused_3 (disk_of b s) s n k in
      let t = no_tag b s in
      (λ e. let (q, l, h, u) = r.0 e in (q, long_fits b s l, h, t.0 u), λ (q, f, h, u). r.1 (q, f.long, h, t.1 u))

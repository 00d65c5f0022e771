-- What the parts of the code ask and promise. Nothing that an audit answers is said here.
use Rattle.std.specs.Prelude.{ℕ, ◌≤◌, ◌≡◌, List, Result, Ok, length, replicate}
use Rattle.answers.specs.declared.Refusal.{Refusal}
use Rattle.volume.specs.declared.disk.Disk.{Disk}
use Rattle.volume.specs.Disks.{claim_bytes}
use Rattle.walk.specs.Nodes.{walk_of}
use Rattle.audit.specs.declared.audit.Report.{Report}
use Rattle.audit.specs.Audits.{walked, claims_of, claim_after}

-- a claim area that is all 0, and has room for a byte for each block
pub record Fresh (d : Disk) (claim : List ℕ) : Type 0 where
  pub zero : claim ≡ replicate (length claim) 0
  pub room : claim_bytes d ≤ length claim

-- the walk and the bitmap, with a claim byte for each block
pub record Within (d : Disk) (s : List ℕ) (r : Result Report Refusal) (claim' : List ℕ) : Type 0 where
  pub answer : r ≡ walked d s (walk_of d s)
  pub claims : (p : Report) → r ≡ Ok p → claim' ≡ claims_of (walk_of d s)

-- the same in a claim area of n bytes
pub record Tagged (d : Disk) (s : List ℕ) (n : ℕ) (r : Result Report Refusal) (claim' : List ℕ) : Type 0 where
  pub answer : r ≡ walked d s (walk_of d s)
  pub claim : claim' ≡ claim_after d s r n

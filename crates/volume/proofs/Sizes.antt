-- Laws of a disk's numbers and of a file's. Assumes nothing.
use Prim.Native.Nat.{ℕ, ◌+◌, ◌-◌, ◌*◌, ◌/◌, ◌≤◌, ◌<◌}
use mathlib.Core.Path.{◌≡◌, refl}
use mathlib.Core.Bool.{Bool, true, false}
use lib.Dec.{ltb}
use borrow.Author.Tests.{ltb-true, ltb-false}
use native.Mathlib.Nat.{mul-le-mul}
use native.Mathlib.Omega.{arith}
use Rattle.volume.specs.declared.disk.Disk.{Disk}
use Rattle.answers.specs.Tests.{pick}
use Rattle.answers.proofs.Clashes.{impossible}
use Rattle.volume.specs.Blocks.{block_bytes, data_room}
use Rattle.volume.specs.Disks.{Sized, most_blocks, first_key, is_old, in_range, data_bytes, data_start, file_limit}
use Rattle.volume.specs.Files.{data_blocks, held_of}

-- what holds of both numbers that the data rule may give holds of the one that it gives
pub by_data : (P : ℕ → Type 0) (d : Disk) → P data_room → P block_bytes → P (data_bytes d)
unfolding data_bytes pick
by_data P d old fast = go (is_old d)
  where
    go : (t : Bool) → P (pick t data_room block_bytes)
    go true = old
    go false = fast

-- the number that it gives, as code tests it
module _ (d : Disk) (t : Bool) (e : t ≡ is_old d) where
  pub data_old : t ≡ true → data_room ≡ data_bytes d
  unfolding data_bytes pick
  data_old h = rw (← e, h) refl

  pub data_fast : t ≡ false → block_bytes ≡ data_bytes d
  unfolding data_bytes pick
  data_fast h = rw (← e, h) refl

  -- and the data blocks of a file of z bytes
  pub blocks_old : (z : ℕ) → t ≡ true → (z + (data_room - 1)) / data_room ≡ data_blocks d z
  blocks_old z h = rw (← data_old h) refl

  pub blocks_fast : (z : ℕ) → t ≡ false → (z + (block_bytes - 1)) / block_bytes ≡ data_blocks d z
  blocks_fast z h = rw (← data_fast h) refl

-- so many bytes in each data block, at most all of its bytes: those of the largest file, and those before data block n
module _ (b : ℕ) (h : b ≤ block_bytes) where
  pub limit_fits : (d : Disk) → Sized d → (d.blocks - 5) * b ≤ 2079232
  limit_fits d y = let k : d.blocks - 5 ≤ 4061 = omega (arith, y.most) in mul-le-mul k h

  pub before_fits : (n : ℕ) → n ≤ most_blocks → (n - 1) * b ≤ 2081280
  before_fits n l = let k : n - 1 ≤ 4065 = omega arith in mul-le-mul k h

module _ (d : Disk) where
  -- a data block holds some bytes, which end with it
  pub data_some : 1 ≤ data_bytes d
  data_some = by_data (λ b. 1 ≤ b) d (omega arith) (omega arith)

  pub data_most : data_bytes d ≤ block_bytes
  data_most = by_data (λ b. b ≤ block_bytes) d (omega arith) (omega arith)

  pub data_inside : data_start d + data_bytes d ≤ block_bytes
  unfolding data_start
  data_inside = omega (arith, data_most)

  pub limit_most : Sized d → file_limit d ≤ 2079232
  limit_most h = limit_fits (data_bytes d) data_most d h

  -- its data blocks hold a file
  pub blocks_hold : (z : ℕ) → z ≤ data_blocks d z * data_bytes d
  blocks_hold z = by_data (λ b. z ≤ (z + (b - 1)) / b * b) d (omega arith) (omega arith)

  -- a size within the limit has no more data blocks than the disk has room for
  pub blocks_most : (z : ℕ) → z ≤ file_limit d → data_blocks d z ≤ d.blocks - 5
  blocks_most z =
      by_data (λ b. z ≤ (d.blocks - 5) * b → (z + (b - 1)) / b ≤ d.blocks - 5) d (λ h. omega arith) (λ h. omega arith)

  -- ---- a key in range lies between the boot blocks and the end

  module _ (k : ℕ) where
    range_go : (t : Bool) → ltb k first_key ≡ t → pick t false (ltb k d.blocks) ≡ true
        → (first_key ≤ k) × (k < d.blocks)
    unfolding pick
    range_go true e p = impossible cc
    range_go false e p = (ltb-false k first_key e, ltb-true k d.blocks p)

    pub range_is : in_range d k ≡ true → (first_key ≤ k) × (k < d.blocks)
    unfolding in_range
    range_is e = range_go (ltb k first_key) refl e

-- ---- the bytes that data block n of a file of z bytes holds; b is `data_bytes d`

module _ (d : Disk) (z n b : ℕ) (e : b ≡ data_bytes d) where
  pub held_none : z < (n - 1) * b → 0 ≡ held_of d z n
  unfolding held_of
  held_none h = rw (← e) (omega arith)

  pub held_full : (n - 1) * b ≤ z → b ≤ z - (n - 1) * b → b ≡ held_of d z n
  unfolding held_of
  held_full g h = rw (← e) (omega arith)

  pub held_rest : (n - 1) * b ≤ z → z - (n - 1) * b < b → z - (n - 1) * b ≡ held_of d z n
  unfolding held_of
  held_rest g h = rw (← e) (omega arith)

-- Sums that are known by a bitmap block. Assumes nothing.
use Rattle.std.specs.Prelude.{Option, Some, None}
use Prim.Native.Nat.{ℕ, ◌+◌, ◌≤◌, ◌<◌}
use mathlib.Core.Path.{◌≡◌, refl, sym, ◌∙◌}
use mathlib.Core.Bool.{Bool, true, false, not}
use mathlib.Core.List.{List}
use native.Mathlib.Omega.{arith}
use native.Mathlib.Decide.{dec_lt}
use lib.Dec.{eqb}
use lib.ListN.{length}
use Rattle.answers.specs.Tests.{pick}
use borrow.Author.Tests.{eqb-true}
use Rattle.answers.proofs.Clashes.{impossible}
use Rattle.volume.specs.declared.disk.Disk.{Disk}
use Rattle.volume.specs.Disks.{Sized, first_key, in_range, image_bytes}
use Rattle.volume.specs.Blocks.{Holds, sum_of}
use Rattle.volume.specs.Bitmap.{is_free}
use Rattle.volume.proofs.Sizes.{range_is}
use Rattle.volume.specs.Sums.{breaks_sum, SumsKnown, Testable}

-- as code tests it: f is whether the block is free, w its sum
module _ (s : List ℕ) (map k : ℕ) (f : Bool) (e : f ≡ is_free s map k) where
  pub free_keeps : f ≡ true → false ≡ breaks_sum s map k
  unfolding pick
  free_keeps h = rw (← e, h)

  pub used_breaks : (w : ℕ) → f ≡ false → w ≡ sum_of s k → not (eqb w 0) ≡ breaks_sum s map k
  unfolding pick
  used_breaks w h g = rw (← e, h, ← g)

-- a block that is in use and breaks no sum
keeps_sum : (s : List ℕ) (map k : ℕ) → breaks_sum s map k ≡ false → is_free s map k ≡ false → sum_of s k ≡ 0
unfolding pick
keeps_sum s map k e h = go (eqb (sum_of s k) 0) refl (rw h at e)
  where
    go : (b : Bool) → eqb (sum_of s k) 0 ≡ b → not b ≡ false → sum_of s k ≡ 0
    go true p q = eqb-true (sum_of s k) 0 p
    go false p q = impossible cc

module _ (d : Disk) (s : List ℕ) where
  -- block k may be tested
  pub testable : (map : Option ℕ) (k : ℕ) → Sized d → length s ≡ image_bytes d → SumsKnown d s map → first_key ≤ k
      → k < d.blocks → Testable d s map k
  testable map k y e m l h =
      record { sized = y; image = e; summed = m; low = l; high = h; holds = omega arith }

  -- so may one whose key is in range, with nothing known of sums
  pub range_testable : (k : ℕ) (t : Bool) → Sized d → length s ≡ image_bytes d → t ≡ in_range d k → t ≡ true
      → Testable d s None k
  range_testable k t y l e h = let r = range_is d k (sym e ∙ h) in testable None k y l tt r.0 r.1

  -- a bitmap block by which sums are known lies in the image
  pub map_holds : (map k : ℕ) → Testable d s (Some map) k → Holds s map
  map_holds map k v = omega (arith, v.image, v.summed.inside)

  -- the sum of a block that is in use
  pub sum_known : (map k : ℕ) (f : Bool) → Testable d s (Some map) k → f ≡ is_free s map k → not f ≡ true
      → 0 ≡ sum_of s k
  sum_known map k true v e h = impossible cc
  sum_known map k false v e h = sym (v.summed.sums k v.low v.high (sym e))

  pub sum_said : (k : ℕ) (t : Bool) → (t ≡ true → 0 ≡ sum_of s k) → t ≡ true → 0 ≡ sum_of s k
  sum_said k t f e = f e

  -- ---- the loop: the blocks below k that are in use add up to 0

  module _ (map : ℕ) where
    pub record SumsInv (k : ℕ) : Type 0 where
      pub low : first_key ≤ k
      pub high : k ≤ d.blocks
      pub done : (j : ℕ) → first_key ≤ j → j < k → is_free s map j ≡ false → sum_of s j ≡ 0

    pub sums_start : Sized d → SumsInv first_key
    sums_start y = record { low = omega arith; high = omega (arith, y.least); done = λ j l h. absurd (omega arith) }

    pub sums_again : (k : ℕ) (b : Bool) → SumsInv k → k < d.blocks → b ≡ breaks_sum s map k → b ≡ false
        → SumsInv (k + 1)
    sums_again k b v h f e =
        record { low = omega (arith, v.low); high = omega arith; done = λ j l q. go j l q (dec_lt j k) }
      where
        go : (j : ℕ) → first_key ≤ j → j < k + 1 → Dec (j < k) → is_free s map j ≡ false → sum_of s j ≡ 0
        go j l q (yes p) = v.done j l p
        go j l q (no p) = let g : j ≡ k = omega arith in rw g (keeps_sum s map k (sym f ∙ e))

    pub sums_end : (k : ℕ) → SumsInv k → d.blocks ≤ k → map < d.blocks → SumsKnown d s (Some map)
    sums_end k v h i = record { inside = i; sums = λ j l q. v.done j l (omega arith) }

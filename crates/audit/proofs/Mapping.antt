-- The bitmap against the claims: the loop over the blocks. Assumes nothing.
use Rattle.std.specs.Prelude.{Ok, Err}
use Prim.Native.Nat.{ℕ, suc, ◌+◌, ◌-◌, ◌≤◌, ◌<◌}
use mathlib.Core.Path.{◌≡◌, refl, sym, ◌∙◌}
use mathlib.Core.Bool.{Bool, true, false, not, beq}
use mathlib.Core.List.{List}
use native.Mathlib.Omega.{arith}
use native.Mathlib.Numerals.{add-one}
use lib.Dec.{eqb}
use lib.ListN.{get_or}
use mir.Val.{bool_byte}
use Rattle.answers.specs.Tests.{pick}
use Rattle.volume.specs.declared.disk.Disk.{Disk}
use Rattle.volume.specs.Disks.{Sized, first_key}
use Rattle.volume.specs.Bitmap.{is_free}
use Rattle.answers.specs.Numbers as fault
use Rattle.answers.specs.Refusals.{refusal}
use Rattle.audit.specs.Bits.{bit_wrong, bits_from, bits_of}

-- as code tests it
pub bit_is : (f : Bool) (b : ℕ) → beq f (not (eqb b 0)) ≡ bit_wrong f b
unfolding bit_wrong pick
bit_is f b = go f (eqb b 0)
  where
    go : (f t : Bool) → beq f (not t) ≡ pick f (not t) t
    go true true = refl
    go true false = refl
    go false true = refl
    go false false = refl

-- as code counts it
counted : (f : Bool) (n : ℕ) → n + bool_byte f ≡ pick f (n + 1) n
unfolding pick
counted true n = refl
counted false n = omega arith

count_most : (f : Bool) (n : ℕ) → pick f (n + 1) n ≤ n + 1
unfolding pick
count_most true n = omega arith
count_most false n = omega arith

module _ (d : Disk) (s : List ℕ) (bitmap_key : ℕ) (cl : List ℕ) where
  pub record BitsInv (free k : ℕ) : Type 0 where
    pub low : first_key ≤ k
    pub high : k ≤ d.blocks
    pub few : free + first_key ≤ k
    pub left : bits_from s bitmap_key cl k free (d.blocks - k) ≡ bits_of d s bitmap_key cl

  pub bits_start : Sized d → BitsInv 0 first_key
  bits_start h = record { low = omega arith; high = omega (arith, h.least); few = omega arith; left = refl }

  module _ (free k : ℕ) (v : BitsInv free k) where
    pub bits_few : (f : Bool) → Sized d → free + bool_byte f < 4294967296
    bits_few f h = omega (arith, v.few, v.high, h.most, counted f free, count_most f free)

    module _ (q : k < d.blocks) (f w : Bool) (e : f ≡ is_free s bitmap_key k)
        (g : w ≡ bit_wrong f (get_or cl k 0)) where
      one_more : bits_from s bitmap_key cl k free (d.blocks - k) ≡ pick w (Err (refusal fault.wrong_bit k))
          (bits_from s bitmap_key cl (k + 1) (pick f (free + 1) free) (d.blocks - (k + 1)))
      unfolding bits_from
      one_more = let n : d.blocks - k ≡ suc (d.blocks - (k + 1)) = omega arith in rw (n, ← e, ← g, add-one k) refl

      pub bits_wrong : w ≡ true → Err (refusal fault.wrong_bit k) ≡ bits_of d s bitmap_key cl
      unfolding pick
      bits_wrong h = sym (rw h at one_more) ∙ v.left

      pub bits_again : w ≡ false → BitsInv (free + bool_byte f) (k + 1)
      unfolding pick
      bits_again h =
          record {
            low = omega (arith, v.low);
            high = omega arith;
            few = omega (arith, v.few, counted f free, count_most f free);
            left = rw (counted f free) (sym (rw h at one_more) ∙ v.left);
          }

    pub bits_end : d.blocks ≤ k → Ok free ≡ bits_of d s bitmap_key cl
    unfolding bits_from
    bits_end h = let n : d.blocks - k ≡ 0 = omega arith in rw n at v.left

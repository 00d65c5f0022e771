-- Where the data keys of a file are listed: the way there, the step from one to the next, and what is listed there.
-- Assumes nothing.
use Prim.Native.Nat.{ℕ, zero, suc, ◌+◌, ◌-◌, ◌*◌, ◌/◌, ◌%◌, ◌≤◌, ◌<◌}
use mathlib.Core.Path.{◌≡◌, refl, ap, ◌∙◌}
use mathlib.Core.Logic.{◌⊎◌, inl, inr}
use mathlib.Core.List.{List, [], ◌∷◌}
use native.Mathlib.Omega.{arith}
use native.Mathlib.Numerals.{add-one}
use lib.ListN.{length}
use Rattle.reach.specs.References.{At, ◌∈◌}
use Rattle.reach.proofs.Lists.{at_in}
use Rattle.volume.specs.declared.disk.Disk.{Disk}
use Rattle.volume.specs.Blocks.{slots, Holds, word_of, key_word}
use Rattle.volume.specs.Disks.{image_bytes}
use Rattle.volume.specs.Files.{keys_here, list_blocks, keys_down, lists_from, keys_from, blocks_of, lists_of, keys_of}
use Rattle.volume.proofs.Keys.{down_at, down_long}
use Rattle.walk.proofs.Lists.{at_left, at_right}
use Rattle.reading.specs.declared.copy.Listed.{Listed}
use Rattle.reading.specs.Parts.{BlocksInside, lister_at, IsListed, WayHeld, Steps}

module _ (s : List ℕ) where
  -- ---- the way over the list blocks

  pub way_starts : (h : ℕ) → h ≡ lister_at s h 0
  unfolding lister_at
  way_starts h = refl

  pub way_goes : (h b i b' : ℕ) → b ≡ lister_at s h i → b' ≡ word_of s b 126 → b' ≡ lister_at s h (i + 1)
  unfolding lister_at
  way_goes h b i b' e f = rw (add-one i, ← e) f

  -- ---- the step to the next key: in the same block, or in the next

  pub step_over : (a : Listed) (b : ℕ) → a.index < slots → slots ≤ a.index + 1 → b ≡ word_of s a.block 126
      → Steps s a (record { block = b; index = 0 })
  unfolding lister_at
  step_over a b m l f =
      record {
        next = λ h n v.
            let e = v.index in
            let z : suc (n / slots) ≡ suc n / slots = omega arith in
            record { block = f ∙ rw v.block (ap (lister_at s h) z); index = omega arith };
      }

  -- ---- what is listed there

  lister_on : (b q : ℕ) → lister_at s (word_of s b 126) q ≡ lister_at s b (suc q)
  unfolding lister_at
  lister_on b zero = refl
  lister_on b (suc q) = ap (λ (k : ℕ). word_of s k 126) (lister_on b q)

  lister_at_lem : (b n q : ℕ) → q ≤ n → At q (lister_at s b q) (b ∷ lists_from s b n)
  unfolding lister_at lists_from
  lister_at_lem b n zero l = refl
  lister_at_lem b zero (suc q) l = absurd (omega arith)
  lister_at_lem b (suc n) (suc q) l = rw (← lister_on b q) (lister_at_lem (word_of s b 126) n q (omega arith))

  -- key i of the block at position q is key j of all
  from_at : (bs : List ℕ) (n q i j b : ℕ) → j ≡ slots * q + i → i < slots → j < n → At q b bs
      → At j (key_word s b i) (keys_from s n bs)
  unfolding keys_from
  from_at [] n q i j b e l g a = absurd a
  from_at (c ∷ bs) n zero i j b e l g a =
      let z : j ≡ i = omega arith in
      rw (a, z) (at_left _ i (keys_down s c 0 (keys_here n)) (keys_from s (n - slots) bs)
      (down_at s c 0 (keys_here n) i i (omega arith) (omega arith)))
  from_at (c ∷ bs) n (suc q) i j b e l g a =
      at_right _ j (j - slots) (keys_down s c 0 (keys_here n)) (keys_from s (n - slots) bs)
      (rw (down_long s c 0 (keys_here n)) (omega arith))
      (from_at bs (n - slots) q i (j - slots) b (omega arith) l (omega arith) a)

-- ---- data key n of the file with header h

module _ (d : Disk) (s : List ℕ) (h n : ℕ) (l : n < blocks_of d s h) where
  pub key_at : (a : Listed) (k : ℕ) → IsListed s h n a → k ≡ key_word s a.block a.index → At n k (keys_of d s h)
  key_at a k v e =
      rw (e, v.block, v.index) (from_at s (h ∷ lists_of d s h) (blocks_of d s h) (n / slots) (n % slots) n
      (lister_at s h (n / slots)) (omega arith) (omega arith) l
      (lister_at_lem s h (list_blocks (blocks_of d s h)) (n / slots) (omega arith)))

  -- the block that lists it, and those on the way there
  module _ (inside : h < d.blocks) (t : BlocksInside d s h) (long : length s ≡ image_bytes d) where
    pub lister_held : (q : ℕ) → q ≤ n / slots → Holds s (lister_at s h q)
    lister_held q p =
        go (at_in (lister_at s h q) q (h ∷ lists_of d s h)
        (lister_at_lem s h (list_blocks (blocks_of d s h)) q (omega arith)))
      where
        go : (lister_at s h q ≡ h) ⊎ (lister_at s h q ∈ lists_of d s h) → Holds s (lister_at s h q)
        go (inl e) = rw e (omega arith)
        go (inr m) = omega (arith, t.lists (lister_at s h q) m)

    pub way_held : WayHeld s h n
    way_held = record { each = λ q p. lister_held q (omega arith) }

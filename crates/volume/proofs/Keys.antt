-- The keys that a block lists, one by one; a file has as many data keys as data blocks. Assumes nothing.
use Prim.Native.Nat.{ℕ, zero, suc, ◌+◌, ◌-◌, ◌*◌, ◌<◌, min}
use mathlib.Core.Path.{◌≡◌, refl, ap, ◌∙◌}
use mathlib.Core.List.{List, [], ◌∷◌}
use native.Mathlib.Omega.{arith}
use lib.ListN.{length, length-append}
use Rattle.volume.specs.declared.disk.Disk.{Disk}
use Rattle.reach.specs.References.{At}
use Rattle.volume.specs.Blocks.{slots, word_of, key_word}
use Rattle.volume.specs.Files.{keys_down, lists_from, keys_from, list_blocks, blocks_of, lists_of, keys_of}

module _ (s : List ℕ) where
  -- the keys of one block
  pub down_long : (b i n : ℕ) → length (keys_down s b i n) ≡ n
  unfolding keys_down
  down_long b i zero = refl
  down_long b i (suc n) = ap suc (down_long b (suc i) n)

  pub down_at : (b i n j x : ℕ) → x ≡ i + j → j < n → At j (key_word s b x) (keys_down s b i n)
  unfolding keys_down
  down_at b i zero j x e h = absurd (omega arith)
  down_at b i (suc n) zero x e h = let f : x ≡ i = omega arith in ap (key_word s b) f
  down_at b i (suc n) (suc j) x e h = down_at b (suc i) n j x (omega arith) (omega arith)

  -- its list blocks
  pub lists_long : (b n : ℕ) → length (lists_from s b n) ≡ n
  unfolding lists_from
  lists_long b zero = refl
  lists_long b (suc n) = ap suc (lists_long (word_of s b 126) n)

  from_long : (n : ℕ) (bs : List ℕ) → length (keys_from s n bs) ≡ min n (slots * length bs)
  unfolding keys_from
  from_long n [] = omega arith
  from_long n (b ∷ bs) =
      rw (
        length-append (keys_down s b 0 (min n slots)) (keys_from s (n - slots) bs),
        down_long b 0 (min n slots),
        from_long (n - slots) bs,
      )
      (omega arith)

-- all of them
pub keys_long : (d : Disk) (s : List ℕ) (h : ℕ) → length (keys_of d s h) ≡ blocks_of d s h
keys_long d s h =
    from_long s (blocks_of d s h) (h ∷ lists_of d s h) ∙ rw (lists_long s h (list_blocks (blocks_of d s h)))
    (few (blocks_of d s h))
  where
    few : (n : ℕ) → min n (slots * suc (list_blocks n)) ≡ n
    few n = omega arith

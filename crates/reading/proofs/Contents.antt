-- A file has as many bytes as its size says. Assumes nothing.
use Prim.Native.Nat.{ℕ, zero, suc, ◌+◌, ◌-◌, ◌*◌, ◌/◌, ◌%◌, ◌<◌, min}
use mathlib.Core.Path.{◌≡◌, refl, sym, ap, ◌∙◌}
use mathlib.Core.Logic.{inl, inr}
use mathlib.Core.List.{List, [], ◌∷◌, ◌++◌}
use native.Mathlib.Nat.{zero-mul, suc-mul, add_comm, div-add-mod', div-lt_iff_lt-mul}
use native.Mathlib.Omega.{arith}
use lib.ListN.{length, take, drop, length-take, length-drop, length-append}
use lib.Seq.{drop-drop, drop-nil, drop-append-add}
use Rattle.reach.specs.References.{◌∈◌}
use Rattle.volume.specs.declared.disk.Disk.{Disk}
use Rattle.volume.specs.Disks.{data_bytes, image_bytes}
use Rattle.volume.specs.Files.{data_blocks, size_of, keys_of}
use Rattle.volume.proofs.Sizes.{data_some, data_inside, blocks_hold}
use Rattle.volume.proofs.Keys.{keys_long}
use Rattle.reading.specs.Bytes.{data_of, data_in, file_bytes, part}
use Rattle.reading.specs.Parts.{BlocksInside}
use Rattle.reading.proofs.Parts.{drop_take, take_least}

-- one of the data blocks of a file of z bytes holds byte o
pub block_there : (d : Disk) (z o : ℕ) → o < z → o / data_bytes d < data_blocks d z
block_there d z o l = (div-lt_iff_lt-mul (data_some d)).1 (omega (arith, blocks_hold d z))

-- ---- the data of no blocks, and of some

pub all_none : (d : Disk) (s : List ℕ) → data_in d s [] ≡ []
unfolding data_in
all_none d s = refl

pub all_first : (d : Disk) (s : List ℕ) (k : ℕ) (ks : List ℕ) → data_in d s (k ∷ ks) ≡ data_of d s k ++ data_in d s ks
unfolding data_in
all_first d s k ks = refl

-- ---- the data of blocks that lie in the image

module _ (d : Disk) (s : List ℕ) (long : length s ≡ image_bytes d) where
  pub data_long : (k : ℕ) → k < d.blocks → length (data_of d s k) ≡ data_bytes d
  data_long k h = rw (length-take, length-drop) (omega (arith, data_inside d))

  pub all_long : (ks : List ℕ) → ((k : ℕ) → k ∈ ks → k < d.blocks) → length (data_in d s ks) ≡ length ks * data_bytes d
  unfolding data_in
  all_long [] f = sym (zero-mul (data_bytes d))
  all_long (k ∷ ks) f =
      rw (
        length-append (data_of d s k) (data_in d s ks),
        data_long k (f k (inl refl)),
        all_long ks (λ j m. f j (inr m)),
        suc-mul (length ks) (data_bytes d),
      )
      (omega arith)

  pub all_drop : (i : ℕ) (ks : List ℕ) → ((k : ℕ) → k ∈ ks → k < d.blocks)
      → drop (i * data_bytes d) (data_in d s ks) ≡ data_in d s (drop i ks)
  unfolding data_in
  all_drop zero ks f = rw (zero-mul (data_bytes d)) refl
  all_drop (suc i) [] f = drop-nil (suc i * data_bytes d)
  all_drop (suc i) (k ∷ ks) f =
      let e : suc i * data_bytes d ≡ length (data_of d s k) + i * data_bytes d =
      suc-mul i (data_bytes d) ∙ add_comm _ _ ∙ rw (data_long k (f k (inl refl))) refl in
      rw e (drop-append-add (data_of d s k) (data_in d s ks) (i * data_bytes d) ∙ all_drop i ks (λ j m. f j (inr m)))

-- ---- the bytes of a file that was tested

module _ (d : Disk) (s : List ℕ) (h : ℕ) (long : length s ≡ image_bytes d) (t : BlocksInside d s h) where
  pub file_long : length (file_bytes d s h) ≡ size_of s h
  unfolding file_bytes
  file_long =
      rw (
        length-take (size_of s h) (data_in d s (keys_of d s h)),
        all_long d s long (keys_of d s h) t.keys,
        keys_long d s h,
      )
      (omega (arith, blocks_hold d (size_of s h)))

  -- how many of them a read copies
  pub part_long : (o n : ℕ) → length (part (file_bytes d s h) o n) ≡ min n (size_of s h - o)
  unfolding part
  part_long o n = rw (length-take n (drop o (file_bytes d s h)), length-drop o (file_bytes d s h), file_long) refl

  -- and where they begin
  pub part_there : (o n : ℕ)
      → part (file_bytes d s h) o n ≡ take (min n (size_of s h - o))
      (drop (o % data_bytes d) (data_in d s (drop (o / data_bytes d) (keys_of d s h))))
  unfolding part file_bytes
  part_there o n =
      let e : drop o (data_in d s (keys_of d s h)) ≡ drop (o % data_bytes d)
      (data_in d s (drop (o / data_bytes d) (keys_of d s h))) =
      ap (λ (k : ℕ). drop k (data_in d s (keys_of d s h))) (sym (div-add-mod' o (data_bytes d)))
      ∙ sym (drop-drop (o % data_bytes d) (o / data_bytes d * data_bytes d) (data_in d s (keys_of d s h)))
      ∙ ap (drop (o % data_bytes d)) (all_drop d s long (o / data_bytes d) (keys_of d s h) t.keys) in
      rw (
        drop_take o (size_of s h) (data_in d s (keys_of d s h)),
        take_least n (size_of s h - o) (drop o (data_in d s (keys_of d s h))),
        e,
      ) refl

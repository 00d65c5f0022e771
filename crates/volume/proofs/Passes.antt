-- What a block that passes its tests is, part by part, and that nothing else passes. Assumes nothing.
use Prim.Native.Nat.{ℕ}
use mathlib.Core.Path.{◌≡◌}
use mathlib.Core.Logic.{◌↔◌}
use mathlib.Core.Bool.{true}
use mathlib.Core.List.{List}
use Rattle.volume.specs.declared.disk.Disk.{Disk}
use Rattle.volume.specs.Disks.{is_old, root_of}
use Rattle.volume.specs.Blocks.{sum_of}
use Rattle.volume.specs.Files.{size_of}
use Rattle.volume.specs.Law.{Root, Valid, KeyCount, ListBlock}
use Rattle.volume.specs.Rules.{root_fault, map_fault, bitmap_fault, entry_fault, file_fault, list_fault, data_fault}
-- an entry that passes is placed
pub use Rattle.volume.specs.Breaks.{EntrySound}
use Rattle.volume.specs.Breaks.{HeaderSound, DataSound}
pub use Rattle.volume.proofs.Checks.{◌&◌}
use Rattle.volume.proofs.Checks.{sum_test}
use Rattle.volume.proofs.Breaks.{root_sound, map_sound, entry_sound, header_sound, list_sound, data_sound}

-- ---- the root

module _ (d : Disk) (s : List ℕ) where
  abbrev r : ℕ
  r = root_of d

  pub root_passed : root_fault d s ≡ 0 → map_fault d s ≡ 0 → (sum_of s r ≡ 0) × Root s r × Valid d s
  root_passed e f =
      let a = (root_sound d s).0 e in
      let b = (map_sound d s).0 f in
      (a.sum, record { kind = a.kind; fixed = a.fixed; name = a.name; rest = b.1 }, b.0)

  pub root_passes : sum_of s r ≡ 0 → Root s r → root_fault d s ≡ 0
  root_passes e h =
      (root_sound d s).1 (record { sum = e; kind = h.kind; fixed = h.fixed; name = h.name })

  pub map_passes : Root s r → Valid d s → map_fault d s ≡ 0
  map_passes h v = (map_sound d s).1 (v, h.rest)

-- ---- the bitmap block

pub bitmap_passed : (s : List ℕ) (k : ℕ) → bitmap_fault s k ≡ 0 ↔ (sum_of s k ≡ 0)
unfolding bitmap_fault
bitmap_passed s k = ((sum_test s k).passed, (sum_test s k).passes)

-- ---- an entry

module _ (d : Disk) (s : List ℕ) (k t i : ℕ) where
  pub entry_passed : entry_fault d s k t i ≡ 0 → EntrySound d s k t i
  entry_passed = (entry_sound d s k t i).0

  pub entry_passes : EntrySound d s k t i → entry_fault d s k t i ≡ 0
  entry_passes = (entry_sound d s k t i).1

-- ---- a list block

module _ (s : List ℕ) (k h n : ℕ) where
  pub list_passed : list_fault s k h n ≡ 0 → (sum_of s k ≡ 0) × ListBlock s h k × KeyCount s k n
  list_passed e = let p = (list_sound s k h n).0 e in (p.sum, p.block, p.lists)

  pub list_passes : (sum_of s k ≡ 0) × ListBlock s h k × KeyCount s k n → list_fault s k h n ≡ 0
  list_passes p = (list_sound s k h n).1 (record { sum = p.0; block = p.1; lists = p.2 })

-- ---- a file's own tests

module _ (d : Disk) (s : List ℕ) (k : ℕ) where
  pub file_passed : file_fault d s k ≡ 0 → HeaderSound d s k
  file_passed = (header_sound d s k).0

  pub file_passes : HeaderSound d s k → file_fault d s k ≡ 0
  file_passes = (header_sound d s k).1

-- ---- data block n of the file h: nothing is asked of it on the Fast File System

module _ (d : Disk) (s : List ℕ) (k h n named : ℕ) where
  pub data_passed : data_fault d s k h (size_of s h) n named ≡ 0 → is_old d ≡ true → DataSound d s k h n named
  data_passed = (data_sound d s k h n named).0

  pub data_passes : (is_old d ≡ true → DataSound d s k h n named) → data_fault d s k h (size_of s h) n named ≡ 0
  data_passes = (data_sound d s k h n named).1

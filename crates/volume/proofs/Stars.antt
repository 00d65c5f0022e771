-- The worked cases that docs/FORMAT.md stars hold, all in one statement. Assumes nothing.
use Prim.Native.Nat.{ℕ}
use mathlib.Core.Path.{refl}
use Rattle.answers.specs.Tests.{pick}
use Rattle.answers.proofs.Members.{each_in}
use Rattle.volume.specs.declared.disk.Disk.{Disk}
use Rattle.volume.specs.Disks.{kinds, Exists, is_old, folds_accents, data_bytes}
use Rattle.volume.specs.Names.{slot_of, hash_from, fold_of, fold_international, accented, fold_plain}
use Rattle.volume.specs.Stars.{answer, stars, Hold}

-- on every disk that exists: by its kind, whatever its size
pub stars_hold : (d : Disk) → Exists d → Hold d (stars d)
unfolding answer slot_of hash_from fold_of folds_accents fold_international accented fold_plain pick is_old data_bytes
stars_hold d x = each_in (λ k. Hold (of k) (stars (of k))) kinds (refl, (refl, (refl, (refl, tt)))) d.kind x.kind
  where
    of : ℕ → Disk
    of k = record { blocks = d.blocks; kind = k }

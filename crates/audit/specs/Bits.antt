-- The bitmap must say that a block is free if and only if it is not claimed; the lowest block of which it does not
-- is refused, and the free blocks are counted (docs/FORMAT.md, "Order of the walk", and refusal 17).
use Rattle.std.specs.Prelude.{ℕ, zero, suc, ◌+◌, Bool, not, List, Result, Ok, Err, eqb, get_or}
use Rattle.answers.specs.declared.Refusal.{Refusal}
use Rattle.answers.specs.Numbers as fault
use Rattle.answers.specs.Refusals.{refusal}
use Rattle.answers.specs.Tests.{pick}
use Rattle.volume.specs.declared.disk.Disk.{Disk}
use Rattle.volume.specs.Disks.{first_key, bit_span}
use Rattle.volume.specs.Bitmap.{is_free}

-- a free block that is claimed, or one in use that is not
unfoldable pub bit_wrong : Bool → ℕ → Bool
bit_wrong free byte = pick free (not (eqb byte 0)) (eqb byte 0)

-- the bits of n blocks from block k on, with f free blocks before them
unfoldable pub bits_from : List ℕ → ℕ → List ℕ → ℕ → ℕ → ℕ → Result ℕ Refusal
bits_from s bitmap_key claims k f zero = Ok f
bits_from s bitmap_key claims k f (suc n) =
    pick (bit_wrong (is_free s bitmap_key k) (get_or claims k 0)) (Err (refusal fault.wrong_bit k))
    (bits_from s bitmap_key claims (suc k) (pick (is_free s bitmap_key k) (f + 1) f) n)

abbrev pub bits_of : Disk → List ℕ → ℕ → List ℕ → Result ℕ Refusal
bits_of d s bitmap_key claims = bits_from s bitmap_key claims first_key 0 (bit_span d)

-- The new bitmap block of a delete and of a repair, its sum mended in w0.
use Rattle.std.specs.Prelude.{ℕ, List}
use Rattle.volume.specs.declared.disk.Disk.{Disk}
use Rattle.volume.specs.Disks.{first_key, bit_span}
use Rattle.volume.specs.Law.{bitmap_key_of}
use Rattle.writes.specs.Bits.{set_bits, map_bits}
use Rattle.writes.specs.Writes.{block_of, mended}

-- the bitmap block of s with v as the bit of each of the blocks ks
abbrev pub page_with : Disk → List ℕ → List ℕ → ℕ → List ℕ
page_with d s ks v = mended 0 (set_bits (block_of s (bitmap_key_of d s)) ks v)

-- the bitmap block of s with f j as the bit of each block j that has one
abbrev pub repair_page : Disk → List ℕ → (ℕ → ℕ) → List ℕ
repair_page d s f = mended 0 (map_bits (block_of s (bitmap_key_of d s)) f first_key (bit_span d))

-- A repair as two writes: the bitmap block, then the root with w78 = FFFFFFFF. A delete ends with the same two.
use Rattle.std.specs.Prelude.{ℕ, ◌≤◌, ◌<◌, ◌≡◌, ◌↔◌, false, List, [], ◌∷◌}
use Rattle.volume.specs.declared.disk.Disk.{Disk}
use Rattle.volume.specs.Disks.{first_key, root_of}
use Rattle.volume.specs.Law.{bitmap_key_of, Used}
use Rattle.writes.specs.Writes.{Write, write, put, edited}
use Rattle.writes.specs.Bits.{free_in}

-- the root with m in w78: the write on image s, and the image after it
abbrev pub marking : Disk → List ℕ → ℕ → Write
marking d s m = write (root_of d) (edited s (root_of d) 78 m)

abbrev pub marked : Disk → List ℕ → ℕ → List ℕ
marked d s m = put s (root_of d) (edited s (root_of d) 78 m)

-- `page` is the new bitmap block: the image after the first write, and after both
abbrev pub mapped : Disk → List ℕ → List ℕ → List ℕ
mapped d s page = put s (bitmap_key_of d s) page

abbrev pub repaired : Disk → List ℕ → List ℕ → List ℕ
repaired d s page = marked d (mapped d s page) 0xFFFFFFFF

abbrev pub repair_writes : Disk → List ℕ → List ℕ → List Write
repair_writes d s page = write (bitmap_key_of d s) page ∷ marking d (mapped d s page) 0xFFFFFFFF ∷ []

-- the bit of a block is 0 on the page if and only if the block is reached
abbrev pub Maps : Disk → List ℕ → List ℕ → Type 0
Maps d s page = (j : ℕ) → first_key ≤ j → j < d.blocks → (free_in page j ≡ false) ↔ Used d s j

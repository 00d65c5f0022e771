-- A file's bytes are those of its data blocks one after the other, as many as its size. A read takes those after
-- its offset, as many as there are and have room, and leaves what room is over as it was (docs/FORMAT.md, "Blocks
-- of a volume", File and Data block, and "Paths and reads").
use Rattle.std.specs.Prelude.{ℕ, ◌+◌, ◌*◌, List, [], ◌∷◌, ◌++◌, length, take, drop}
use Rattle.volume.specs.declared.disk.Disk.{Disk}
use Rattle.volume.specs.Blocks.{block_bytes}
use Rattle.volume.specs.Disks.{data_bytes, data_start}
use Rattle.volume.specs.Files.{size_of, keys_of}

-- the first byte of the data of block k
abbrev pub data_byte : Disk → ℕ → ℕ
data_byte d k = k * block_bytes + data_start d

-- the data of block k, and of the blocks ks in order
abbrev pub data_of : Disk → List ℕ → ℕ → List ℕ
data_of d s k = take (data_bytes d) (drop (data_byte d k) s)

unfoldable pub data_in : Disk → List ℕ → List ℕ → List ℕ
data_in d s [] = []
data_in d s (k ∷ ks) = data_of d s k ++ data_in d s ks

-- the bytes of the file whose header is block h
unfoldable pub file_bytes : Disk → List ℕ → ℕ → List ℕ
file_bytes d s h = take (size_of s h) (data_in d s (keys_of d s h))

-- ---- a read

-- what it copies at offset o into room for n bytes
unfoldable pub part : List ℕ → ℕ → ℕ → List ℕ
part bytes o n = take n (drop o bytes)

-- the output after it
unfoldable pub filled_by : List ℕ → ℕ → List ℕ → List ℕ
filled_by bytes o output = part bytes o (length output) ++ drop (length (part bytes o (length output))) output

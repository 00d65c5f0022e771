-- A file's size gives its number of data blocks. Its header lists the keys of the first 72, and list blocks those of
-- the rest, each 72 but the last (docs/FORMAT.md, "Blocks of a volume", File and List block).
use Rattle.std.specs.Prelude.{ℕ, zero, suc, ◌+◌, ◌-◌, ◌*◌, ◌/◌, min, List, [], ◌∷◌, ◌++◌}
use Rattle.volume.specs.declared.disk.Disk.{Disk}
use Rattle.volume.specs.Blocks.{slots, word_of, key_word}
use Rattle.volume.specs.Disks.{data_bytes}

-- the data blocks of a file of z bytes
abbrev pub data_blocks : Disk → ℕ → ℕ
data_blocks d z = (z + (data_bytes d - 1)) / data_bytes d

-- how many bytes of z data block n holds, counted from 1
unfoldable pub held_of : Disk → ℕ → ℕ → ℕ
held_of d z n = min (data_bytes d) (z - (n - 1) * data_bytes d)

-- of n keys still to come, the header or the next list block has these
abbrev pub keys_here : ℕ → ℕ
keys_here n = min n slots

-- the list blocks of a file of n data blocks
abbrev pub list_blocks : ℕ → ℕ
list_blocks n = (n - 1) / slots

-- the keys in the last block that lists any
abbrev pub last_keys : ℕ → ℕ
last_keys n = n - slots * list_blocks n

-- n keys that block b lists, from its key i on
unfoldable pub keys_down : List ℕ → ℕ → ℕ → ℕ → List ℕ
keys_down s b i zero = []
keys_down s b i (suc n) = key_word s b i ∷ keys_down s b (suc i) n

-- the n list blocks after block b, each in the w126 of the one before
unfoldable pub lists_from : List ℕ → ℕ → ℕ → List ℕ
lists_from s b zero = []
lists_from s b (suc n) = word_of s b 126 ∷ lists_from s (word_of s b 126) n

-- n keys, as many from each block as it lists
unfoldable pub keys_from : List ℕ → ℕ → List ℕ → List ℕ
keys_from s n [] = []
keys_from s n (b ∷ bs) = keys_down s b 0 (keys_here n) ++ keys_from s (n - slots) bs

-- ---- the file whose header is block h

abbrev pub size_of : List ℕ → ℕ → ℕ
size_of s h = word_of s h 81

abbrev pub blocks_of : Disk → List ℕ → ℕ → ℕ
blocks_of d s h = data_blocks d (size_of s h)

-- the keys of its list blocks, and of its data blocks, in order
abbrev pub lists_of : Disk → List ℕ → ℕ → List ℕ
lists_of d s h = lists_from s h (list_blocks (blocks_of d s h))

abbrev pub keys_of : Disk → List ℕ → ℕ → List ℕ
keys_of d s h = keys_from s (blocks_of d s h) (h ∷ lists_of d s h)

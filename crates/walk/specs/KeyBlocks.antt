-- A block that lists data blocks of a file, as code passes it on: the header, the block after another, what they
-- lead to, and what code may take for granted of them.
use Rattle.std.specs.Prelude.{ℕ, ◌+◌, ◌-◌, ◌≤◌, ◌<◌, ◌≡◌, ◌≢◌, List}
use Rattle.volume.specs.declared.disk.Disk.{Disk}
use Rattle.volume.specs.Disks.{most_blocks, file_limit}
use Rattle.volume.specs.Blocks.{slots, Holds, word_of, key_word}
use Rattle.volume.specs.Files.{size_of, blocks_of, keys_here}
use Rattle.volume.specs.Law.{KeyCount}
use Rattle.walk.specs.declared.file.KeyBlock.{KeyBlock}
use Rattle.walk.specs.Nodes.{Node, list, key_nodes, list_link}

-- ---- from block to block

abbrev pub header_of : List ℕ → ℕ → KeyBlock
header_of s h = record { header = h; size = size_of s h; key = h; done = 0; last = h }

-- after the last its key is 0
abbrev pub next_of : List ℕ → KeyBlock → KeyBlock
next_of s b =
    record {
      header = b.header;
      size = b.size;
      key = word_of s b.key 126;
      done = b.done + slots;
      last = key_word s b.key 71;
    }

-- how many keys it has
abbrev pub keys_in : Disk → List ℕ → KeyBlock → ℕ
keys_in d s b = keys_here (blocks_of d s b.header - b.done)

-- ---- as nodes of the walk

abbrev pub list_node : KeyBlock → Node
list_node b = list b.key b.header b.done b.last

-- the data blocks that it lists
abbrev pub data_nodes : Disk → List ℕ → KeyBlock → List Node
data_nodes d s b = key_nodes s b.header b.key b.done b.last 0 (keys_in d s b)

-- it alone, or nothing where its key is 0
abbrev pub link_to : KeyBlock → List Node
link_to b = list_link b.key b.header b.done b.last

-- ---- what is known of it

-- it is one of a file whose size passes; its own key may be any
pub record InFile (d : Disk) (s : List ℕ) (b : KeyBlock) : Type 0 where
  pub size : b.size ≡ size_of s b.header
  pub limit : b.size ≤ file_limit d
  pub header : b.header < d.blocks
  pub last : b.last < d.blocks
  pub done : b.done ≤ blocks_of d s b.header

-- it has passed its own tests: its keys come next
pub record KeysReady (d : Disk) (s : List ℕ) (b : KeyBlock) : Type 0 where
  pub file : InFile d s b
  pub key : b.key < d.blocks
  pub counts : KeyCount s b.key (blocks_of d s b.header - b.done)

-- what it takes to go on to the next: it lies in the image, and no count overflows
pub record InImage (s : List ℕ) (b : KeyBlock) : Type 0 where
  pub holds : Holds s b.key
  pub few : b.done ≤ most_blocks

-- the keys of the block before it have passed: it is there if and only if keys are left
pub record NextReady (d : Disk) (s : List ℕ) (b : KeyBlock) : Type 0 where
  pub file : b.key ≢ 0 → InFile d s b
  pub left : b.key ≢ 0 → b.done < blocks_of d s b.header
  pub ends : b.key ≡ 0 → blocks_of d s b.header ≤ b.done

-- A volume as a graph: what each block leads to, in the order of the walk, and the tests that it must pass
-- (docs/FORMAT.md, "Order of the walk"). A node is a key with the kind that its reference asks for, and what the
-- tests of that kind must know.
use Rattle.std.specs.Prelude.{ℕ, zero, suc, ◌+◌, ◌-◌, Bool, true, false, List, [], ◌∷◌, ◌++◌}
use Rattle.std.proofs.Common.{arith}
use Rattle.answers.specs.Numbers as fault
use Rattle.answers.specs.Tests.{pick, must, never, first}
use Rattle.reach.specs.Walk.{Graph, Outcome, audit}
use Rattle.volume.specs.declared.disk.Disk.{Disk}
use Rattle.volume.specs.Disks.{root_of, in_range}
use Rattle.volume.specs.Blocks.{slots, word_of, slot_word, key_word, directory}
use Rattle.volume.specs.Names.{name_of, same}
use Rattle.volume.specs.Files.{keys_here, size_of, blocks_of}
use Rattle.volume.specs.References.{Kind, Ref, to}
use Rattle.volume.specs.Law.{chain_key}
use Rattle.volume.specs.Rules.{root_fault, map_fault, bitmap_fault, entry_fault, file_fault, list_fault, data_fault}
use Rattle.walk.specs.declared.Counts.{Counts}

pub data Node : Type 0 where
  root : Node
  -- its key
  bitmap : ℕ → Node
  -- its key; the directory and the slot on whose chain it hangs, and its position there, from 0
  entry : ℕ → ℕ → ℕ → ℕ → Node
  -- its key; the header, how many data blocks come before its own, and the last of these (or the header)
  list : ℕ → ℕ → ℕ → ℕ → Node
  -- its key; the header, its number from 1, and the data block before it (or the header)
  datum : ℕ → ℕ → ℕ → ℕ → Node

abbrev pub key_of : Disk → Node → ℕ
key_of d root = root_of d
key_of d (bitmap k) = k
key_of d (entry k t i p) = k
key_of d (list k h m b) = k
key_of d (datum k h n b) = k

-- the block that a node asks for, and the kind: what is left when its context is forgotten
abbrev pub bare : Disk → Node → Ref
bare d root = to Kind.root (root_of d)
bare d (bitmap k) = to Kind.bitmap k
bare d (entry k t i p) = to Kind.entry k
bare d (list k h m b) = to Kind.list k
bare d (datum k h n b) = to Kind.datum k

-- ---- what a node leads to, in order

-- 0 leads nowhere
abbrev pub linked : ℕ → (ℕ → Node) → List Node
linked zero f = []
linked (suc k) f = f (suc k) ∷ []

abbrev pub chained : ℕ → ℕ → ℕ → ℕ → List Node
chained k t i p = linked k (λ k. entry k t i p)

-- n slots of directory t, from slot i on
unfoldable pub slot_nodes : List ℕ → ℕ → ℕ → ℕ → List Node
slot_nodes s t i zero = []
slot_nodes s t i (suc n) = chained (slot_word s t i) t i 0 ++ slot_nodes s t (suc i) n

-- the data block before key i of block b, where c comes before key 0
abbrev pub before : List ℕ → ℕ → ℕ → ℕ → ℕ
before s b c zero = c
before s b c (suc i) = key_word s b i

-- n data blocks of file h that block b lists, from its key i on; m data blocks come before b's, c the last of them
unfoldable pub key_nodes : List ℕ → ℕ → ℕ → ℕ → ℕ → ℕ → ℕ → List Node
key_nodes s h b m c i zero = []
key_nodes s h b m c i (suc n) = datum (key_word s b i) h (suc (m + i)) (before s b c i) ∷ key_nodes s h b m c (suc i) n

abbrev pub list_link : ℕ → ℕ → ℕ → ℕ → List Node
list_link k h m c = linked k (λ k. list k h m c)

-- what block b lists: n data blocks, then the list block after it
abbrev pub counted_nodes : List ℕ → ℕ → ℕ → ℕ → ℕ → ℕ → List Node
counted_nodes s h b m c n = key_nodes s h b m c 0 n ++ list_link (word_of s b 126) h (m + n) (before s b c n)

abbrev pub key_block_nodes : Disk → List ℕ → ℕ → ℕ → ℕ → ℕ → List Node
key_block_nodes d s h b m c = counted_nodes s h b m c (keys_here (blocks_of d s h - m))

-- what is in a directory, or in a file
abbrev pub contents : Disk → List ℕ → ℕ → Bool → List Node
contents d s k true = slot_nodes s k 0 slots
contents d s k false = key_block_nodes d s k k 0 k

unfoldable pub leads_to : Disk → List ℕ → Node → List Node
leads_to d s root = bitmap (word_of s (root_of d) 79) ∷ slot_nodes s (root_of d) 0 slots
leads_to d s (bitmap k) = []
leads_to d s (entry k t i p) = contents d s k (directory s k) ++ chained (word_of s k 124) t i (suc p)
leads_to d s (list k h m c) = key_block_nodes d s h k m c
leads_to d s (datum k h n c) = []

-- ---- the tests

-- one of the first p entries of the chain from key `head` has the name of k
unfoldable pub twin : Disk → List ℕ → ℕ → ℕ → ℕ → Bool
twin d s k head zero = false
twin d s k head (suc p) = pick (same d (name_of s (chain_key s head p)) (name_of s k)) true (twin d s k head p)

-- a key lies after the boot blocks, in the volume
abbrev pub key_fault : Disk → ℕ → ℕ
key_fault d k = must (in_range d k) fault.bad_key

-- the tests of an entry: its own, no earlier name, and those of a file
unfoldable pub hangs_fault : Disk → List ℕ → ℕ → ℕ → ℕ → ℕ → ℕ
hangs_fault d s k t i p =
    first (entry_fault d s k t i)
    (first (never (twin d s k (slot_word s t i) p) fault.double_name) (pick (directory s k) 0 (file_fault d s k)))

unfoldable pub fault_of : Disk → List ℕ → Node → ℕ
fault_of d s root = first (root_fault d s) (map_fault d s)
fault_of d s (bitmap k) = bitmap_fault s k
fault_of d s (entry k t i p) = hangs_fault d s k t i p
fault_of d s (list k h m c) = list_fault s k h (blocks_of d s h - m)
fault_of d s (datum k h n c) = data_fault d s k h (size_of s h) n (word_of s c 4)

-- ---- the counts

abbrev pub nothing : Counts
nothing = record { directories = 0; files = 0; lists = 0; blocks = 0 }

abbrev pub with_entry : Bool → Counts → Counts
with_entry true c = record { directories = c.directories + 1; files = c.files; lists = c.lists; blocks = c.blocks }
with_entry false c = record { directories = c.directories; files = c.files + 1; lists = c.lists; blocks = c.blocks }

abbrev pub with_list : Counts → Counts
with_list c = record { directories = c.directories; files = c.files; lists = c.lists + 1; blocks = c.blocks }

abbrev pub with_block : Counts → Counts
with_block c = record { directories = c.directories; files = c.files; lists = c.lists; blocks = c.blocks + 1 }

unfoldable pub noted : List ℕ → Node → Counts → Counts
noted s root c = c
noted s (bitmap k) c = c
noted s (entry k t i p) c = with_entry (directory s k) c
noted s (list k h m b) c = with_list c
noted s (datum k h n b) c = with_block c

-- ---- the graph, and its walk

abbrev pub graph : Disk → List ℕ → Graph Node Counts
graph d s =
    record {
      references = record { root = root; key = key_of d; refs = leads_to d s };
      before = λ n. key_fault d (key_of d n);
      taken = fault.claimed_twice;
      taken_refuses = omega arith;
      after = fault_of d s;
      note = noted s;
    }

-- from the root, with a claim byte for each block
unfoldable pub walk_of : Disk → List ℕ → Outcome Counts
walk_of d s = audit (graph d s) d.blocks nothing

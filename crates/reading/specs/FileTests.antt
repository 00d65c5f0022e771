-- The tests of a file before it is read: its header's own, then all of its blocks in the audit's order, without
-- claims (docs/FORMAT.md, "Paths and reads"). The blocks, their order and their tests are the audit's.
use Rattle.answers.specs.declared.Refusal.{Refusal}
use Rattle.std.specs.Prelude.{ℕ, zero, suc, ◌+◌, ◌-◌, List, [], ◌∷◌, ◌++◌, eqb, Result, Ok, Err}
use Rattle.answers.specs.Tests.{pick, first}
use Rattle.answers.specs.Refusals.{refusal}
use Rattle.volume.specs.declared.disk.Disk.{Disk}
use Rattle.volume.specs.Blocks.{slots, word_of, key_word}
use Rattle.volume.specs.Files.{blocks_of, list_blocks, keys_here}
use Rattle.volume.specs.Rules.{file_fault}
use Rattle.walk.specs.Nodes.{Node, list, key_of, key_fault, fault_of, key_nodes}

-- the key's range, then the block's tests
abbrev pub node_fault : Disk → List ℕ → Node → ℕ
node_fault d s n = first (key_fault d (key_of d n)) (fault_of d s n)

-- the first block that fails
unfoldable pub first_fault : Disk → List ℕ → List Node → Result Unit Refusal
first_fault d s [] = Ok tt
first_fault d s (n ∷ ns) =
    pick (eqb (node_fault d s n) 0) (first_fault d s ns) (Err (refusal (node_fault d s n) (key_of d n)))

-- the blocks of file h from block b on, which lists keys after m data blocks, c the last of them; q list blocks
-- follow it
unfoldable pub blocks_from : Disk → List ℕ → ℕ → ℕ → ℕ → ℕ → ℕ → List Node
blocks_from d s h b m c zero = key_nodes s h b m c 0 (keys_here (blocks_of d s h - m))
blocks_from d s h b m c (suc q) =
    key_nodes s h b m c 0 (keys_here (blocks_of d s h - m))
    ++ (list (word_of s b 126) h (m + slots) (key_word s b 71)
    ∷ blocks_from d s h (word_of s b 126) (m + slots) (key_word s b 71) q)

abbrev pub file_nodes : Disk → List ℕ → ℕ → List Node
file_nodes d s h = blocks_from d s h h 0 h (list_blocks (blocks_of d s h))

unfoldable pub blocks_fault : Disk → List ℕ → ℕ → Result Unit Refusal
blocks_fault d s h =
    pick (eqb (file_fault d s h) 0) (first_fault d s (file_nodes d s h)) (Err (refusal (file_fault d s h) h))

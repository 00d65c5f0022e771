-- What a block refers to. That depends on the kind in which it is asked for: a directory has slots and a link, a file
-- data keys and links, a list block data keys and a link, and the root the key of the bitmap block (docs/FORMAT.md,
-- "Blocks of a volume", Reached).
use Rattle.std.specs.Prelude.{ℕ, zero, suc, List, [], ◌∷◌, ◌++◌, map}
use Rattle.reach.specs.References.{References}
use Rattle.volume.specs.declared.disk.Disk.{Disk}
use Rattle.answers.specs.Tests.{pick}
use Rattle.volume.specs.Disks.{root_of}
use Rattle.volume.specs.Blocks.{slots, word_of, slot_word, directory}
use Rattle.volume.specs.Files.{keys_down}

pub data Kind : Type 0 where
  root bitmap entry list datum : Kind

-- a block, and the kind that the reference to it asks for
pub record Ref : Type 0 where
  pub kind : Kind
  pub key : ℕ

abbrev pub to : Kind → ℕ → Ref
to a k = record { kind = a; key = k }

-- 0 in a slot or a link refers to nothing
abbrev pub link : Kind → ℕ → List Ref
link a zero = []
link a (suc k) = to a (suc k) ∷ []

-- n slots of directory k, from slot i on
unfoldable pub slot_refs : List ℕ → ℕ → ℕ → ℕ → List Ref
slot_refs s k i zero = []
slot_refs s k i (suc n) = link entry (slot_word s k i) ++ slot_refs s k (suc i) n

-- the data keys that a header or a list block counts in w2, and its list link
abbrev pub key_refs : List ℕ → ℕ → List Ref
key_refs s k = map (to datum) (keys_down s k 0 (word_of s k 2)) ++ link list (word_of s k 126)

-- the references of block k, asked for as a kind
unfoldable pub refers_to : List ℕ → Kind → ℕ → List Ref
refers_to s root k = to bitmap (word_of s k 79) ∷ slot_refs s k 0 slots
refers_to s bitmap k = []
refers_to s entry k = pick (directory s k) (slot_refs s k 0 slots) (key_refs s k) ++ link entry (word_of s k 124)
refers_to s list k = key_refs s k
refers_to s datum k = []

abbrev pub references : Disk → List ℕ → References Ref
references d s = record { root = to root (root_of d); key = λ r. r.key; refs = λ r. refers_to s r.kind r.key }

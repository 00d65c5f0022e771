-- What an entry has for itself: all that is reached from it, but not by the link to the next entry of its chain
-- (`Own`). Of a file or an empty directory it is a list (`own_blocks`): the theorem `own_keys`.
use Rattle.std.specs.Prelude.{ℕ, ◌≡◌, List, [], ◌∷◌, ◌++◌}
use Rattle.answers.specs.Tests.{pick}
use Rattle.reach.specs.References.{Reached}
use Rattle.volume.specs.declared.disk.Disk.{Disk}
use Rattle.volume.specs.Blocks.{slots, directory}
use Rattle.volume.specs.Files.{lists_of, keys_of}
use Rattle.volume.specs.References.{Kind, Ref, to, slot_refs, key_refs, refers_to}
use Rattle.cut.specs.Cut.{from}

abbrev pub key_of : Ref → ℕ
key_of r = r.key

-- what a reference leads to
abbrev pub refs_of : List ℕ → Ref → List Ref
refs_of s r = refers_to s r.kind r.key

-- the same, without the link of an entry to the next of its chain
abbrev pub within : List ℕ → ℕ → List Ref
within s k = pick (directory s k) (slot_refs s k 0 slots) (key_refs s k)

abbrev pub own_to : List ℕ → Kind → ℕ → List Ref
own_to s Kind.root k = refers_to s Kind.root k
own_to s Kind.bitmap k = refers_to s Kind.bitmap k
own_to s Kind.entry k = within s k
own_to s Kind.list k = refers_to s Kind.list k
own_to s Kind.datum k = refers_to s Kind.datum k

abbrev pub own_of : List ℕ → Ref → List Ref
own_of s r = own_to s r.kind r.key

-- r is the entry k, or is reached from it by such references
abbrev pub Mine : List ℕ → ℕ → Ref → Type 0
Mine s k r = Reached (from (to Kind.entry k) key_of (own_of s)) r

-- block j is one of these
abbrev pub Own : List ℕ → ℕ → ℕ → Type 0
Own s k j = (r : Ref) × Mine s k r × (r.key ≡ j)

-- the entry k, and for a file its list blocks and its data blocks, in order
unfoldable pub own_blocks : Disk → List ℕ → ℕ → List ℕ
own_blocks d s k = k ∷ pick (directory s k) [] (lists_of d s k ++ keys_of d s k)

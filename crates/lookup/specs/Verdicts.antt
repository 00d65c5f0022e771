-- What each answer of a lookup means: when a path has a bad form, when an entry is found, and when which number is
-- given at which place.
use Rattle.std.specs.Prelude.{ℕ, ◌+◌, ◌≤◌, ◌<◌, ◌≡◌, ◌≢◌, true, false, List, [], ◌∷◌, ◌++◌, length}
use Rattle.answers.specs.Numbers as fault
use Rattle.reach.specs.References.{◌∈◌}
use Rattle.words.specs.Word.{word_at}
use Rattle.volume.specs.declared.disk.Disk.{Disk}
use Rattle.volume.specs.Disks.{image_bytes, tag_of, root_of, chain_limit}
use Rattle.volume.specs.Blocks.{directory}
use Rattle.volume.specs.Names.{slot_of}
use Rattle.volume.specs.Files.{size_of}
use Rattle.volume.specs.Breaks.{Inside, RootSound, RootBreaks, EntryBreaks}
use Rattle.lookup.specs.Paths.{longest_path, components, is_component}
use Rattle.lookup.specs.Search.{position_key}
use Rattle.lookup.specs.Trails.{Others, First, Over, Comes}

-- ---- the form of a path

-- it is short enough, and each of its components may be one
pub record GoodForm (path : List ℕ) : Type 0 where
  pub short : length path ≤ longest_path
  pub good : (c : List ℕ) → c ∈ components path → is_component c ≡ true

-- the first component that may not be one, number i of cs, counted from n
pub record BadComponent (n i : ℕ) (cs : List (List ℕ)) : Type 0 where
  pub front : List (List ℕ)
  pub name : List ℕ
  pub back : List (List ℕ)
  pub parts : cs ≡ front ++ (name ∷ back)
  pub good : (c : List ℕ) → c ∈ front → is_component c ≡ true
  pub bad : is_component name ≡ false
  pub number : i ≡ n + length front

-- the path is too long, said of component 0, or component i is the first that may not be one
pub data BadForm (path : List ℕ) (i : ℕ) : Type 0 where
  long : longest_path < length path → i ≡ 0 → BadForm path i
  component : length path ≤ longest_path → BadComponent 0 i (components path) → BadForm path i

-- ---- the way to a component

-- what is tested before the components: image length, path, boot tag, the root up to its name
pub record Opened (d : Disk) (s path : List ℕ) : Type 0 where
  pub long : length s ≡ image_bytes d
  pub form : GoodForm path
  pub tag : word_at s 0 ≡ tag_of d
  pub root : RootSound s (root_of d)

-- one component of the path, looked for in the directory that those before it lead to from the root
abbrev pub Reaches : Disk → List ℕ → List ℕ → Type 0
Reaches d s path = Comes d s (root_of d) (components path)

-- the key at position p of its chain
abbrev pub key_in : (d : Disk) (s path : List ℕ) → Reaches d s path → ℕ → ℕ
key_in d s path w p = position_key d s w.parent w.name p

-- ---- each answer

-- the file k of z bytes is the last component, n entries compared
pub record IsFile (d : Disk) (s path : List ℕ) (k z n : ℕ) : Type 0 where
  pub opened : Opened d s path
  pub comes : Reaches d s path
  pub position : ℕ
  pub found : First d s comes.parent comes.name position
  pub kind : directory s (key_in d s path comes position) ≡ false
  pub last : comes.back ≡ []
  pub key : key_in d s path comes position ≡ k
  pub size : size_of s (key_in d s path comes position) ≡ z
  pub count : comes.compared + (position + 1) ≡ n

-- key k stands at a position of a component's chain, and every entry before it passes its tests and has another name
pub record Stands (d : Disk) (s path : List ℕ) (k : ℕ) : Type 0 where
  pub opened : Opened d s path
  pub comes : Reaches d s path
  pub position : ℕ
  pub others : Others d s comes.parent comes.name 0 position
  pub key : key_in d s path comes position ≡ k
  pub some : k ≢ 0

-- no entry of component i's chain has its name, and the chain has ended
pub record Missing (d : Disk) (s path : List ℕ) (i : ℕ) : Type 0 where
  pub opened : Opened d s path
  pub comes : Reaches d s path
  pub position : ℕ
  pub over : Over d s comes.parent comes.name position
  pub component : i ≡ length comes.front

-- component i is a file, and not the last
pub record AsDirectory (d : Disk) (s path : List ℕ) (i : ℕ) : Type 0 where
  pub opened : Opened d s path
  pub comes : Reaches d s path
  pub position : ℕ
  pub found : First d s comes.parent comes.name position
  pub kind : directory s (key_in d s path comes position) ≡ false
  pub more : comes.back ≢ []
  pub component : i ≡ length comes.front

-- the refusal v at k
pub data Refuses (d : Disk) (s path : List ℕ) (v k : ℕ) : Type 0 where
  number_1 : length s ≢ image_bytes d → v ≡ fault.image_length → k ≡ 0 → Refuses d s path v k
  number_18 : length s ≡ image_bytes d → BadForm path k → v ≡ fault.path_form → Refuses d s path v k
  number_3 : length s ≡ image_bytes d → GoodForm path → word_at s 0 ≢ tag_of d → v ≡ fault.boot_tag → k ≡ 0
      → Refuses d s path v k
  -- 7, 8, 4 and 11: the root breaks the law as that number says
  of_root : length s ≡ image_bytes d → GoodForm path → word_at s 0 ≡ tag_of d → RootBreaks s (root_of d) v
      → k ≡ root_of d
      → Refuses d s path v k
  number_5 : Stands d s path k → (Inside d k → ⊥) → v ≡ fault.bad_key → Refuses d s path v k
  -- as many entries as a chain may have were compared
  number_6 : (h : Stands d s path k) → Inside d k → h.position ≡ chain_limit d → v ≡ fault.claimed_twice
      → Refuses d s path v k
  -- 7 to 12: the entry breaks the law as that number says
  of_entry : (h : Stands d s path k) → Inside d k → h.position < chain_limit d
      → EntryBreaks d s k h.comes.parent (slot_of d h.comes.name) v → Refuses d s path v k
  number_19 : Missing d s path k → v ≡ fault.not_found → Refuses d s path v k
  number_20 : AsDirectory d s path k → v ≡ fault.wrong_kind → Refuses d s path v k

-- What a refusal of the walk means: a number v, and the key k of a block (docs/FORMAT.md, "Order of the walk" and
-- "Numbers"). `FirstRefusal` says exactly when it is given, in the order of the walk. `Cause` leaves the order out
-- and names, number by number, the field of the law that block k breaks.
use Rattle.std.specs.Prelude.{ℕ, suc, ◌-◌, ◌*◌, ◌<◌, ◌≡◌, ◌≢◌, ◌⊎◌, true, false, List, [], ◌∷◌, ◌++◌, map}
use Rattle.answers.specs.Numbers as fault
use Rattle.reach.specs.References.{At, ◌∈◌, Reached}
use Rattle.reach.specs.Law.{Twice}
use Rattle.volume.specs.declared.disk.Disk.{Disk}
use Rattle.volume.specs.Disks.{is_old, root_of}
use Rattle.volume.specs.Blocks.{slots, word_of, sum_of, slot_word, directory, data_type, file_kind}
use Rattle.volume.specs.Names.{name_of, name_good, folded, slot_of}
use Rattle.volume.specs.Files.{blocks_of, lists_of}
use Rattle.volume.specs.References.{Kind, to, references}
use Rattle.volume.specs.Law.{OneBitmap, Valid, chain_key, Hangs, KeyCount, ListBlock}
use Rattle.volume.specs.Law.{RootKind, RootFixed, EntryKind, ListKind, summed}
use Rattle.volume.specs.Breaks.{Inside, RootSound, RootBreaks, MapBreaks, BitmapBreaks, Link, EntryTies, EntrySound}
use Rattle.volume.specs.Breaks.{EntryBreaks, HeaderSound, HeaderBreaks, ListBreaks, IsData, DataTies, DataBreaks}
use Rattle.walk.specs.Nodes.{Node, root, bitmap, entry, list, datum, key_of, leads_to}

-- ---- when it is given, exactly

-- one of the first p entries of the chain from key `head` has the folded name of k
abbrev pub Doubled : Disk → List ℕ → ℕ → ℕ → ℕ → Type 0
Doubled d s k head p = (q : ℕ) × (q < p) × (folded d (name_of s (chain_key s head q)) ≡ folded d (name_of s k))

-- a node breaks the rules of its kind, and v is the number of the first rule that it breaks
abbrev pub NodeBreaks : Disk → List ℕ → Node → ℕ → Type 0
NodeBreaks d s root v = RootBreaks s (root_of d) v ⊎ (RootSound s (root_of d) × MapBreaks d s v)
NodeBreaks d s (bitmap k) v = BitmapBreaks s k v
NodeBreaks d s (entry k t i p) v =
    EntryBreaks d s k t i v
    ⊎ (EntrySound d s k t i × Doubled d s k (slot_word s t i) p × (v ≡ fault.double_name))
    ⊎ (EntrySound d s k t i × (Doubled d s k (slot_word s t i) p → ⊥) × (directory s k ≡ false) × HeaderBreaks d s k v)
NodeBreaks d s (list k h m c) v = ListBreaks s k h (blocks_of d s h - m) v
NodeBreaks d s (datum k h n c) v = (is_old d ≡ true) × DataBreaks d s k h n (word_of s c 4) v

-- of a node that comes after those seen: its key lies outside the volume, or it is a block's that was seen, or it
-- breaks a rule of its kind
pub data Fails (d : Disk) (s : List ℕ) (seen : List Node) (n : Node) (v : ℕ) : Type 0 where
  outside : (Inside d (key_of d n) → ⊥) → v ≡ fault.bad_key → Fails d s seen n v
  again : Inside d (key_of d n) → key_of d n ∈ map (key_of d) seen → v ≡ fault.claimed_twice → Fails d s seen n v
  breaks : Inside d (key_of d n) → ¬ (key_of d n ∈ map (key_of d) seen) → NodeBreaks d s n v → Fails d s seen n v

-- the walk comes to where these nodes are seen, the latest first, and these are to do, the next first: a node that
-- does not fail is seen, and what it leads to comes before the rest
pub data Visited (d : Disk) (s : List ℕ) : List Node → List Node → Type 0 where
  start : Visited d s [] (root ∷ [])
  step : {seen todo : List Node} {n : Node} → Visited d s seen (n ∷ todo) → ((v : ℕ) → Fails d s seen n v → ⊥)
      → Visited d s (n ∷ seen) (leads_to d s n ++ todo)

-- k is the key of the first node, in the order of the walk, that fails
pub record FirstRefusal (d : Disk) (s : List ℕ) (v k : ℕ) : Type 0 where
  pub seen : List Node
  pub node : Node
  pub todo : List Node
  pub visited : Visited d s seen (node ∷ todo)
  pub fails : Fails d s seen node v
  pub keyed : key_of d node ≡ k

-- ---- what it says of the volume, with no order

-- t is the root, or a reached directory
abbrev pub Holder : Disk → List ℕ → ℕ → Type 0
Holder d s t = (t ≡ root_of d) ⊎ (Reached (references d s) (to Kind.entry t) × (directory s t ≡ true))

-- entry k hangs on a chain of slot i of such a directory
pub record Hung (d : Disk) (s : List ℕ) (t i k : ℕ) : Type 0 where
  pub reached : Reached (references d s) (to Kind.entry k)
  pub holder : Holder d s t
  pub hangs : Hangs s t i k

-- h is the header of a reached file
pub record FileAt (d : Disk) (s : List ℕ) (h : ℕ) : Type 0 where
  pub reached : Reached (references d s) (to Kind.entry h)
  pub kind : word_of s h 127 ≡ file_kind

-- w0 and w127 are those of the kind that a reference asks for; an entry may be a link, which 9 is for, and a data block
-- of the Fast File System anything
abbrev pub KindRight : Disk → List ℕ → ℕ → Kind → Type 0
KindRight d s k Kind.root = RootKind s k
KindRight d s k Kind.bitmap = Unit {0}
KindRight d s k Kind.entry = EntryKind s k ⊎ Link s k
KindRight d s k Kind.list = ListKind s k
KindRight d s k Kind.datum = is_old d ≡ true → word_of s k 0 ≡ data_type

-- one case for each number; the field of the law that it breaks stands above it
pub data Cause (d : Disk) (s : List ℕ) (v k : ℕ) : Type 0 where
  -- `Root`: the fixed words of the root
  number_4 : k ≡ root_of d → (RootFixed s k → ⊥) → v ≡ fault.root_words → Cause d s v k
  -- `Tree.keys`: a reached block refers to a key outside the volume
  number_5 : (a : Kind) → Reached (references d s) (to a k) → (Inside d k → ⊥) → v ≡ fault.bad_key → Cause d s v k
  -- `Tree.owned`: two references lead to block k, or one does and it is the root
  number_6 : Twice (references d s) k → v ≡ fault.claimed_twice → Cause d s v k
  -- `Tree.sums`
  number_7 : (a : Kind) → Reached (references d s) (to a k) → summed d a ≡ true → sum_of s k ≢ 0 → v ≡ fault.block_sum
      → Cause d s v k
  -- `type` and `kind` of `Root`, `Entry` and `ListBlock`, `type` of `DataBlock`
  number_8 : (a : Kind) → Reached (references d s) (to a k) → (KindRight d s k a → ⊥) → v ≡ fault.block_type
      → Cause d s v k
  -- `Entry.kind`: it is a link
  number_9 : Reached (references d s) (to Kind.entry k) → Link s k → v ≡ fault.link → Cause d s v k
  -- of an entry `Entry.own`, `Directory.parent`, or w126 of a directory (`Tree.directories`); of list block i of a
  -- file `own` and `parent`
  number_10 : (t i : ℕ) → Hung d s t i k → EntryKind s k → (EntryTies s k t → ⊥) → v ≡ fault.wrong_ties → Cause d s v k
  number_10_list : (h i : ℕ) → FileAt d s h → At i k (lists_of d s h) → ListKind s k → (ListBlock s h k → ⊥)
      → v ≡ fault.wrong_ties → Cause d s v k
  -- `Root.name` or `Entry.name`
  number_11 : (k ≡ root_of d) ⊎ Reached (references d s) (to Kind.entry k) → name_good s k ≡ false → v ≡ fault.bad_name
      → Cause d s v k
  -- `Directory.slot`
  number_12 : (t i : ℕ) → Hung d s t i k → slot_of d (name_of s k) ≢ i → v ≡ fault.wrong_slot → Cause d s v k
  -- `Directory.names`: another entry, earlier on the chain of that directory, has the same folded name
  number_13 : (t i l : ℕ) (h : Hung d s t i k) (g : Hangs s t i l) → g.position < h.hangs.position → l ≢ k
      → folded d (name_of s l) ≡ folded d (name_of s k) → v ≡ fault.double_name → Cause d s v k
  -- `File.size`, `File.counts` or, of an empty file of the old file system, `File.following`; of list block i of a file
  -- `File.counts`
  number_14 : FileAt d s k → (HeaderSound d s k → ⊥) → v ≡ fault.file_layout → Cause d s v k
  number_14_list : (h i : ℕ) → FileAt d s h → At i k (lists_of d s h)
      → (KeyCount s k (blocks_of d s h - slots * suc i) → ⊥) → v ≡ fault.file_layout → Cause d s v k
  -- `File.blocks` or `File.following`, on the old file system, of data block i of a file, counted from 0; c is the data
  -- block before it, or the header
  number_15 : (h i c : ℕ) → is_old d ≡ true → FileAt d s h → IsData d s h i k c
      → (DataTies d s k h (suc i) (word_of s c 4) → ⊥) → v ≡ fault.data_layout → Cause d s v k
  -- `Volume.valid` or `Root.rest`
  number_16 : k ≡ root_of d → (Valid d s → ⊥) ⊎ (OneBitmap s k → ⊥) → v ≡ fault.bitmap_words → Cause d s v k

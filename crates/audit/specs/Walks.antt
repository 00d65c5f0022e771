-- What a part of the walk has done: a claim, a block that was met, a stretch of work. Each is said of the walk over
-- the graph of crate `walk`.
use Rattle.std.specs.Prelude.{ℕ, zero, suc, ◌+◌, ◌-◌, ◌≤◌, ◌<◌, ◌≡◌, List, [], ◌∷◌, ◌++◌, length, get_or, set}
use Rattle.std.specs.Prelude.{Option, Some, None, Result, Ok, Err}
use Rattle.answers.specs.declared.Refusal.{Refusal}
use Rattle.answers.specs.declared.Fault.{Fault}
use Rattle.answers.specs.Refusals.{refusal, refused_at}
use Rattle.answers.specs.Numbers as fault
use Rattle.answers.specs.Tests.{first}
use Rattle.reach.specs.Walk.{Outcome, refused, claimed, free, verdict, run}
use Rattle.volume.specs.declared.disk.Disk.{Disk}
use Rattle.volume.specs.Disks.{Sized, first_key, image_bytes, claim_bytes}
use Rattle.volume.specs.Blocks.{slots, Holds, word_of, slot_word}
use Rattle.volume.specs.Names.{name_length, longest}
use Rattle.walk.specs.declared.Counts.{Counts}
use Rattle.volume.specs.Law.{chain_key}
use Rattle.walk.specs.Nodes.{Node, entry, key_of, key_fault, slot_nodes, key_block_nodes, chained, graph}
use Rattle.walk.specs.declared.file.KeyBlock.{KeyBlock}
use Rattle.walk.specs.KeyBlocks.{next_of, list_node, link_to, InImage, NextReady}

-- what the claim of a key gives
abbrev pub claim_fault : Disk → List ℕ → ℕ → ℕ
claim_fault d cl k = first (key_fault d k) (claimed fault.claimed_twice (get_or cl k 1))

-- a key is claimed, or refused with the number r
pub record Claims (d : Disk) (cl : List ℕ) (k r : ℕ) (cl' : List ℕ) : Type 0 where
  pub told : r ≡ claim_fault d cl k
  pub claims : r ≡ 0 → cl' ≡ set cl k 1
  pub keeps : (r ≡ 0 → ⊥) → cl' ≡ cl

-- what tests of block k come to, said of the block
abbrev pub placed : ℕ → Result Unit Fault → Result Unit Refusal
placed k (Ok u) = Ok u
placed k (Err f) = Err (refused_at f k)

-- a key is claimed, and then tests are made, which may come to what T says; what is wrong is said of place p
pub record Meets (d : Disk) (cl : List ℕ) (k p : ℕ) (T : Result Unit Fault → Type 0) (r : Result Unit Refusal)
    (cl' : List ℕ) : Type 0 where
  pub refused : (claim_fault d cl k ≡ 0 → ⊥) → r ≡ Err (refusal (claim_fault d cl k) p)
  pub claims : claim_fault d cl k ≡ 0 → cl' ≡ set cl k 1
  pub tested : claim_fault d cl k ≡ 0 → (t : Result Unit Fault) × T t × (r ≡ placed p t)

-- the number v, said of block k; 0 is no refusal
abbrev pub verdict_at : ℕ → ℕ → Result Unit Refusal
verdict_at zero k = Ok tt
verdict_at (suc v) k = Err (refusal (suc v) k)

-- a block is met: r is what its tests say, and a block that passes is claimed
pub record Met (d : Disk) (s : List ℕ) (n : Node) (cl : List ℕ) (r : Result Unit Refusal) (cl' : List ℕ)
    : Type 0 where
  pub told : r ≡ verdict_at (verdict (graph d s) cl n) (key_of d n)
  pub claims : r ≡ Ok tt → cl' ≡ set cl (key_of d n) 1

abbrev pub total : Counts → ℕ
total c = c.directories + c.files + c.lists + c.blocks

-- the walk goes on with these, or has stopped
unfoldable pub goes_on : Disk → List ℕ → Result Counts Refusal → List ℕ → List Node → Outcome Counts
goes_on d s (Ok c) cl ns = run (graph d s) cl c ns
goes_on d s (Err r) cl ns = refused r.number r.place

-- of the work `todo` the walk has left `rest`, whatever comes after it
pub record Walks (d : Disk) (s : List ℕ) (todo rest : List Node) (n : Counts) (cl : List ℕ)
    (r : Result Counts Refusal) (cl' : List ℕ) : Type 0 where
  pub same : (ns : List Node) → run (graph d s) cl n (todo ++ ns) ≡ goes_on d s r cl' (rest ++ ns)
  pub count : (c : Counts) → r ≡ Ok c → total c + free cl' ≤ total n + free cl
  pub less : (c : Counts) → r ≡ Ok c → free cl' ≤ free cl

-- what the walk stands on: a disk of a known size, its image, a claim byte for each block, and counts that cannot
-- overflow
pub record Ready (d : Disk) (s cl : List ℕ) (n : Counts) : Type 0 where
  pub sized : Sized d
  pub image : length s ≡ image_bytes d
  pub claim : length cl ≡ claim_bytes d
  pub room : total n + free cl ≤ d.blocks

-- ---- files

-- the data blocks of a block that lists keys are walked, up to the link to the next
pub record KeysWalked (d : Disk) (s : List ℕ) (b : KeyBlock) (n : Counts) (cl : List ℕ)
    (r : Result Counts Refusal) (cl' : List ℕ) : Type 0 where
  pub walks : Walks d s (key_block_nodes d s b.header b.key b.done b.last) (link_to (next_of s b)) n cl r cl'
  pub next : (c : Counts) → r ≡ Ok c → NextReady d s (next_of s b)

-- a list block is walked, and so are its data blocks
pub record ListWalked (d : Disk) (s : List ℕ) (b : KeyBlock) (n : Counts) (cl : List ℕ)
    (r : Result Counts Refusal) (cl' : List ℕ) : Type 0 where
  pub walks : Walks d s (list_node b ∷ []) (link_to (next_of s b)) n cl r cl'
  pub image : (c : Counts) → r ≡ Ok c → InImage s b
  pub next : (c : Counts) → r ≡ Ok c → NextReady d s (next_of s b)
  pub less : (c : Counts) → r ≡ Ok c → free cl' < free cl

-- ---- directories

-- a key that has been met as an entry
pub record Known (d : Disk) (s : List ℕ) (k : ℕ) : Type 0 where
  pub low : first_key ≤ k
  pub high : k < d.blocks
  pub short : name_length s k ≤ longest

-- where an entry hangs: the slot is one of a directory, and the p entries before it on its chain have been met
pub record Chain (d : Disk) (s : List ℕ) (t i p : ℕ) : Type 0 where
  pub inside : t < d.blocks
  pub slot : i < slots
  pub earlier : (q : ℕ) → q < p → Known d s (chain_key s (slot_word s t i) q)

-- the slots of directory t from i up to j, without j, are empty: nothing is met there
pub record EmptyUpto (s : List ℕ) (t i j : ℕ) : Type 0 where
  pub from : i ≤ j
  pub upto : j ≤ slots
  pub empty : slot_nodes s t i (slots - i) ≡ slot_nodes s t j (slots - j)

-- the slots from i on are empty up to the one that is found, or all
pub record UsedSlot (s : List ℕ) (t i : ℕ) (r : Option ℕ) : Type 0 where
  pub found : (j : ℕ) → r ≡ Some j → (j < slots) × EmptyUpto s t i j
  pub none : r ≡ None → EmptyUpto s t i slots

-- an entry is walked, with what is in it, up to the link to the next on its chain
pub record EntryWalked (d : Disk) (s : List ℕ) (k t i p : ℕ) (n : Counts) (cl : List ℕ)
    (r : Result Counts Refusal) (cl' : List ℕ) : Type 0 where
  pub walks : Walks d s (entry k t i p ∷ []) (chained (word_of s k 124) t i (p + 1)) n cl r cl'
  pub known : (c : Counts) → r ≡ Ok c → Known d s k
  pub holds : (c : Counts) → r ≡ Ok c → Holds s k
  pub less : (c : Counts) → r ≡ Ok c → free cl' < free cl

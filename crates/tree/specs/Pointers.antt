-- Where an entry hangs: a slot of the root, a slot of a directory, or w124 of the entry before it on its chain. Then
-- an image in which that word has another value, and the sum of its block is mended in w5.
use Rattle.std.specs.Prelude.{ℕ, ◌+◌, ◌<◌, ◌≡◌, ◌≢◌, ◌⊎◌, true, false, List, length}
use Rattle.reach.specs.References.{Reached}
use Rattle.volume.specs.declared.disk.Disk.{Disk}
use Rattle.volume.specs.Disks.{root_of}
use Rattle.volume.specs.Blocks.{slots, word_of, sum_of, slot_word, directory}
use Rattle.volume.specs.References.{Kind, Ref, to, references}
use Rattle.writes.specs.Alike.{Alike, SameBlock}

-- word w of the block p is a slot, or the link to the next entry of a chain
pub data Points (d : Disk) (s : List ℕ) (p : Ref) (w : ℕ) : Type 0 where
  in_root : (i : ℕ) → i < slots → p ≡ to Kind.root (root_of d) → w ≡ 6 + i → Points d s p w
  in_directory : (x i : ℕ) → i < slots → p ≡ to Kind.entry x → directory s x ≡ true → w ≡ 6 + i → Points d s p w
  in_chain : (x : ℕ) → p ≡ to Kind.entry x → w ≡ 124 → Points d s p w

-- the word that points to entry k, in a block that is reached
pub record Pointed (d : Disk) (s : List ℕ) (k : ℕ) : Type 0 where
  pub from : Ref
  pub word : ℕ
  pub place : Points d s from word
  pub reached : Reached (references d s) from
  pub points : word_of s from.key word ≡ k
  pub some : k ≢ 0
  pub entry : Reached (references d s) (to Kind.entry k)

-- entry k is a file, or a directory with nothing in it
abbrev pub Leaf : List ℕ → ℕ → Type 0
Leaf s k = (directory s k ≡ false) ⊎ ((directory s k ≡ true) × ((i : ℕ) → i < slots → slot_word s k i ≡ 0))

-- ---- the word changed

-- the sum, and the word w
abbrev pub Pointer : ℕ → ℕ → Type 0
Pointer w j = (j ≡ 5) ⊎ (j ≡ w)

-- t is s with v in word w of block p, and the sum of p mended
pub record Repointed (s t : List ℕ) (p w v : ℕ) : Type 0 where
  pub long : length t ≡ length s
  pub others : (j : ℕ) → j ≢ p → SameBlock s t j
  pub rest : Alike (Pointer w) s t p
  pub now : word_of t p w ≡ v
  pub sum : sum_of t p ≡ 0

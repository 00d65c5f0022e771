-- What the parts of the code ask and promise. Nothing that a read answers is said here.
use Rattle.answers.specs.declared.Refusal.{Refusal}
use Rattle.std.specs.Prelude.{ℕ, zero, suc, ◌/◌, ◌%◌, ◌<◌, ◌≤◌, ◌≡◌, List, ◌∷◌, length, Result, Ok}
use Rattle.reach.specs.References.{◌∈◌}
use Rattle.volume.specs.declared.disk.Disk.{Disk}
use Rattle.volume.specs.Blocks.{slots, Holds, word_of}
use Rattle.volume.specs.Disks.{file_limit}
use Rattle.volume.specs.Files.{size_of, lists_of, keys_of}
use Rattle.reading.specs.Bytes.{filled_by, part}
use Rattle.walk.specs.declared.file.KeyBlock.{KeyBlock}
use Rattle.walk.specs.KeyBlocks.{next_of, list_node, data_nodes, InImage, NextReady}
use Rattle.reading.specs.declared.copy.Listed.{Listed}
use Rattle.reading.specs.FileTests.{first_fault}

-- how many bytes it copied, and what it left
pub record Copied (bytes : List ℕ) (o : ℕ) (before : List ℕ) (n : ℕ) (after : List ℕ) : Type 0 where
  pub count : n ≡ length (part bytes o (length before))
  pub output : after ≡ filled_by bytes o before

-- what the tests of the file with header h have shown, and copying rests on: its other blocks lie in the volume
pub record BlocksInside (d : Disk) (s : List ℕ) (h : ℕ) : Type 0 where
  pub size : size_of s h ≤ file_limit d
  pub lists : (k : ℕ) → k ∈ lists_of d s h → k < d.blocks
  pub keys : (k : ℕ) → k ∈ keys_of d s h → k < d.blocks

-- ---- where its data keys are listed

-- header h, and after it the list block that q links lead to
unfoldable pub lister_at : List ℕ → ℕ → ℕ → ℕ
lister_at s h zero = h
lister_at s h (suc q) = word_of s (lister_at s h q) 126

-- data key n, counted from 0
pub record IsListed (s : List ℕ) (h n : ℕ) (r : Listed) : Type 0 where
  pub block : r.block ≡ lister_at s h (n / slots)
  pub index : r.index ≡ n % slots

-- the blocks on the way there lie in the image
pub record WayHeld (s : List ℕ) (h n : ℕ) : Type 0 where
  pub each : (q : ℕ) → q < n / slots → Holds s (lister_at s h q)

-- from a data key of any file to the next
pub record Steps (s : List ℕ) (a r : Listed) : Type 0 where
  pub next : (h n : ℕ) → IsListed s h n a → IsListed s h (suc n) r

-- ---- the tests of its blocks

-- the data blocks of a block that lists keys
pub record KeysTested (d : Disk) (s : List ℕ) (b : KeyBlock) (r : Result Unit Refusal) : Type 0 where
  pub told : r ≡ first_fault d s (data_nodes d s b)
  pub next : r ≡ Ok tt → NextReady d s (next_of s b)

-- a list block and its data blocks
pub record ListTested (d : Disk) (s : List ℕ) (b : KeyBlock) (r : Result Unit Refusal) : Type 0 where
  pub told : r ≡ first_fault d s (list_node b ∷ data_nodes d s b)
  pub image : r ≡ Ok tt → InImage s b
  pub next : r ≡ Ok tt → NextReady d s (next_of s b)

-- The loops over a file's keys and over its list blocks: what is known at each turn, whatever is done with a block.
-- The audit's loops and those of a read rest on it. Assumes nothing.
use Prim.Native.Nat.{ℕ, suc, ◌+◌, ◌-◌, ◌≤◌, ◌<◌}
use mathlib.Core.Path.{◌≡◌, refl}
use mathlib.Core.List.{List, ◌∷◌}
use native.Mathlib.Omega.{arith}
use native.Mathlib.Numerals.{add-one}
use native.Mathlib.Decide.{dec_lt}
use lib.ListN.{length}
use Rattle.volume.specs.declared.disk.Disk.{Disk}
use Rattle.volume.specs.Disks.{Sized, most_blocks, image_bytes}
use Rattle.volume.specs.Blocks.{slots, Holds, word_of, key_word}
use Rattle.volume.specs.Files.{data_blocks, size_of, blocks_of, keys_here}
use Rattle.volume.specs.Rules.{file_fault, list_fault, data_fault}
use Rattle.volume.proofs.Sizes.{blocks_most}
use Rattle.volume.proofs.Passes.{file_passed, list_passed}
use Rattle.walk.specs.declared.file.KeyBlock.{KeyBlock}
use Rattle.walk.specs.Nodes.{Node, datum, before, key_nodes, fault_of}
use Rattle.walk.specs.KeyBlocks.{header_of, next_of, list_node, keys_in, InFile, KeysReady, InImage, NextReady}
use Rattle.walk.proofs.Links.{next_ready}

pub in_image : (d : Disk) (s : List ℕ) (k : ℕ) → length s ≡ image_bytes d → k < d.blocks → Holds s k
in_image d s k l h = omega arith

-- ---- from block to block

pub header_is : (s : List ℕ) (h z : ℕ) → z ≡ size_of s h
    → record { header = h; size = z; key = h; done = 0; last = h } ≡ header_of s h
header_is s h z e = rw e refl

pub next_is : (s : List ℕ) (b : KeyBlock) (k l : ℕ) → k ≡ word_of s b.key 126 → l ≡ key_word s b.key 71
    → record { header = b.header; size = b.size; key = k; done = b.done + slots; last = l } ≡ next_of s b
next_is s b k l e g = rw (e, g) refl

-- ---- a block that lists keys, and its file's numbers

module _ (d : Disk) (s : List ℕ) (b : KeyBlock) (v : InFile d s b) where
  pub done_within : (n : ℕ) → n ≡ data_blocks d b.size → b.done ≤ n
  done_within n e = rw (e, v.size) v.done

  blocks_few : Sized d → blocks_of d s b.header ≤ most_blocks
  blocks_few y = let l = rw v.size at v.limit in omega (arith, blocks_most d (size_of s b.header) l, y.most)

  done_few : Sized d → b.done ≤ most_blocks
  done_few y = omega (arith, v.done, blocks_few y)

  pub number_few : (n : ℕ) → Sized d → n ≤ blocks_of d s b.header → n ≤ most_blocks
  number_few n y l = omega (arith, blocks_few y)

  -- ---- the tests of what it leads to

  pub datum_is : (k n c f : ℕ) → f ≡ data_fault d s k b.header b.size n (word_of s c 4)
      → f ≡ fault_of d s (datum k b.header n c)
  unfolding fault_of
  datum_is k n c f g = rw (← v.size) g

  pub list_is : (n f : ℕ) → n ≡ data_blocks d b.size → f ≡ list_fault s b.key b.header (n - b.done)
      → f ≡ fault_of d s (list_node b)
  unfolding fault_of
  list_is n f e g = rw (← v.size, ← e) g

-- ---- the keys of a block

module _ (d : Disk) (s : List ℕ) (b : KeyBlock) where
  -- its data blocks from key i on, and the next of them
  abbrev pub nodes : ℕ → ℕ → List Node
  nodes i n = key_nodes s b.header b.key b.done b.last i n

  abbrev pub next : ℕ → ℕ → Node
  next i l = datum (key_word s b.key i) b.header (b.done + i + 1) l

  -- of `count` keys, i are done, `last` the latest
  pub record Turn (count last i : ℕ) : Type 0 where
    pub ready : KeysReady d s b
    pub counted : count ≡ keys_in d s b
    pub within : b.done + count ≤ blocks_of d s b.header
    pub few : b.done + count ≤ most_blocks
    pub upto : i ≤ count
    pub previous : last ≡ before s b.key b.last i
    pub inside : last < d.blocks
    pub keys : (q : ℕ) → q < i → key_word s b.key q < d.blocks

  pub turn_start : (count : ℕ) → Sized d → KeysReady d s b → count ≡ keys_here (data_blocks d b.size - b.done)
      → Turn count b.last 0
  turn_start count y r e =
      let c = rw r.file.size at e in
      let w : b.done + count ≤ blocks_of d s b.header = omega (arith, c, r.file.done) in
      record {
        ready = r;
        counted = c;
        within = w;
        few = number_few d s b r.file _ y w;
        upto = omega arith;
        previous = refl;
        inside = r.file.last;
        keys = λ q h. absurd (omega arith);
      }

  module _ (count last i : ℕ) (v : Turn count last i) where
    module _ (h : i < count) where
      pub turn_next : nodes i (count - i) ≡ next i last ∷ nodes (i + 1) (count - (i + 1))
      unfolding key_nodes
      turn_next =
          let e : count - i ≡ suc (count - (i + 1)) = omega arith in
          let n : b.done + i + 1 ≡ suc (b.done + i) = omega arith in
          rw (e, n, add-one i, v.previous) refl

      pub turn_again : (k : ℕ) → k ≡ key_word s b.key i → k < d.blocks → Turn count k (i + 1)
      turn_again k e l =
          record {
            ready = v.ready;
            counted = v.counted;
            within = v.within;
            few = v.few;
            upto = omega arith;
            previous = rw (add-one i) e;
            inside = l;
            keys = λ x p. go x p (dec_lt x i);
          }
        where
          go : (x : ℕ) → x < i + 1 → Dec (x < i) → key_word s b.key x < d.blocks
          go x p (yes y) = v.keys x y
          go x p (no y) = let w : x ≡ i = omega arith in rw (w, ← e) l

    pub turn_end : count ≤ i → NextReady d s (next_of s b)
    turn_end h = next_ready d s b v.ready (λ j l. v.keys j (omega (arith, v.counted)))

-- ---- the blocks of a file that list keys

pub header_ready : (d : Disk) (s : List ℕ) (h : ℕ) (b : KeyBlock) → b ≡ header_of s h → h < d.blocks
    → file_fault d s h ≡ 0 → KeysReady d s b
header_ready d s h b g l e =
    let y : blocks_of d s h - 0 ≡ blocks_of d s h = omega arith in
    let p = file_passed d s h e in
    rw g record {
      file = record { size = refl; limit = p.size; header = l; last = l; done = omega arith };
      key = l;
      counts = rw y p.lists;
    }

module _ (d : Disk) (s : List ℕ) (b : KeyBlock) where
  pub list_ready : InFile d s b → b.key < d.blocks → fault_of d s (list_node b) ≡ 0 → KeysReady d s b
  unfolding fault_of
  list_ready v l e = record { file = v; key = l; counts = (list_passed s b.key b.header _ e).2 }

  pub ready_image : KeysReady d s b → Sized d → length s ≡ image_bytes d → InImage s b
  ready_image v y l = record { holds = in_image d s b.key l v.key; few = done_few d s b v.file y }

  pub ready_holds : KeysReady d s b → length s ≡ image_bytes d → Holds s b.key
  ready_holds v l = in_image d s b.key l v.key

-- The link from a block that lists keys to the next list block. Assumes nothing.
use Prim.Native.Nat.{ℕ, zero, suc, ◌+◌, ◌-◌, ◌<◌}
use mathlib.Core.Path.{◌≡◌, refl}
use mathlib.Core.Logic.{◌≢◌}
use mathlib.Core.List.{List}
use native.Mathlib.Omega.{arith}
use native.Mathlib.Decide.{dec_lt}
use Rattle.volume.specs.declared.disk.Disk.{Disk}
use Rattle.volume.specs.Blocks.{slots, word_of, key_word}
use Rattle.volume.specs.Files.{blocks_of}
use Rattle.volume.specs.Law.{KeyCount}
use Rattle.walk.specs.declared.file.KeyBlock.{KeyBlock}
use Rattle.walk.specs.Nodes.{before, list_link}
use Rattle.walk.specs.KeyBlocks.{next_of, keys_in, link_to, KeysReady, NextReady}

-- it is there only where keys are left
some_more : (s : List ℕ) (k n : ℕ) → KeyCount s k n → word_of s k 126 ≢ 0 → slots < n
some_more s k n l h = go (dec_lt slots n)
  where
    go : Dec (slots < n) → slots < n
    go (yes p) = p
    go (no p) = absurd (h (l.more.1 (omega arith)))

module _ (d : Disk) (s : List ℕ) (b : KeyBlock) (r : KeysReady d s b) where
  more : word_of s b.key 126 ≢ 0 → slots < blocks_of d s b.header - b.done
  more = some_more s b.key _ r.counts

  -- what the block leads to after its data blocks
  pub link_next : list_link (word_of s b.key 126) b.header (b.done + keys_in d s b)
      (before s b.key b.last (keys_in d s b)) ≡ link_to (next_of s b)
  link_next = go (word_of s b.key 126) refl
    where
      go : (w : ℕ) → word_of s b.key 126 ≡ w
          → list_link w b.header (b.done + keys_in d s b) (before s b.key b.last (keys_in d s b)) ≡ list_link w
          b.header (b.done + slots) (key_word s b.key 71)
      go zero e = refl
      go (suc w) e =
          let g = more (λ z. absurd (omega (arith, e, z))) in
          let f : keys_in d s b ≡ slots = omega arith in
          rw f refl

  -- its keys lie in the volume: what is known of the next
  pub next_ready : ((i : ℕ) → i < keys_in d s b → key_word s b.key i < d.blocks) → NextReady d s (next_of s b)
  next_ready f =
      record {
        file =
            λ z. record {
              size = r.file.size;
              limit = r.file.limit;
              header = r.file.header;
              last = f 71 (omega (arith, more z));
              done = omega (arith, more z);
            };
        left = λ z. omega (arith, more z);
        ends = λ z. omega (arith, r.counts.more.0 z);
      }

-- The new bitmap block: with the bits of an entry's own blocks set it frees them (`page_frees`), and with all bits set
-- by what is reached it is right (`page_maps`). Assumes nothing.
use Prim.Native.Nat.{ℕ, ◌+◌, ◌≤◌, ◌<◌}
use mathlib.Core.Path.{◌≡◌, sym, ap, ◌∙◌}
use mathlib.Core.Logic.{◌↔◌}
use mathlib.Core.Bool.{false}
use mathlib.Core.List.{List}
use lib.Dec.{eqb}
use native.Mathlib.Omega.{arith}
use lib.ListN.{length}
use borrow.Author.Tests.{eqb-false}
use Rattle.answers.proofs.Clashes.{impossible}
use Rattle.words.specs.Word.{Bytes}
use Rattle.words.specs.Sum.{sum_at}
use Rattle.reach.specs.References.{◌∈◌}
use Rattle.volume.specs.declared.disk.Disk.{Disk}
use Rattle.volume.specs.Disks.{Sized, first_key, most_blocks, bit_span}
use Rattle.volume.specs.Blocks.{block_bytes, Holds}
use Rattle.volume.specs.Bitmap.{is_free}
use Rattle.volume.specs.Law.{bitmap_key_of, Used}
use Rattle.writes.specs.Writes.{block_of}
use Rattle.writes.specs.Bits.{free_in, set_bits, map_bits}
use Rattle.writes.proofs.Mending.{length_mended, sum_mended}
use Rattle.writes.proofs.Edits.{length_block}
use Rattle.writes.proofs.Bits.{Ranged, length_set_bits, set_bits_in, set_bits_out, length_map_bits, map_bits_in}
use Rattle.writes.proofs.Bits.{mended_bit}
use Rattle.writes.proofs.Bits.{block_bit, block_bytes_lem}
use Rattle.tree.specs.OwnBlocks.{Own}
use Rattle.tree.specs.Pages.{page_with, repair_page}
use Rattle.tree.specs.Repairs.{Maps}
use Rattle.tree.specs.Deletes.{Frees}

module _ (d : Disk) (z : Sized d) (s : List ℕ) (h : Holds s (bitmap_key_of d s)) (b : Bytes s) where
  abbrev old : List ℕ
  old = block_of s (bitmap_key_of d s)

  long : length old ≡ block_bytes
  long = length_block s (bitmap_key_of d s) h

  bytes : Bytes old
  bytes = block_bytes_lem s (bitmap_key_of d s) h b

  -- ---- the bits of the blocks ks set to v

  module _ (ks : List ℕ) (r : Ranged ks) where
    module _ (v : ℕ) (bit : v < 2) where
      whole : length (set_bits old ks v) ≡ block_bytes
      whole = length_set_bits v bit old ks long bytes r

      pub length_page : length (page_with d s ks v) ≡ block_bytes
      length_page = length_mended 0 (set_bits old ks v) (omega arith) whole

      pub sum_page : sum_at (page_with d s ks v) 0 ≡ 0
      sum_page = sum_mended 0 (set_bits old ks v) (omega arith) whole

      module _ (j : ℕ) (low : first_key ≤ j) (high : j < d.blocks) where
        pub page_in : j ∈ ks → free_in (page_with d s ks v) j ≡ eqb v 1
        page_in m = mended_bit (set_bits old ks v) whole j ∙ set_bits_in v bit j low old ks long bytes r m

        pub page_out : ¬ (j ∈ ks) → free_in (page_with d s ks v) j ≡ is_free s (bitmap_key_of d s) j
        page_out n =
            let m = z.most in
            mended_bit (set_bits old ks v) whole j
            ∙ set_bits_out v bit j low old ks long bytes r n
            ∙ block_bit s (bitmap_key_of d s) h j (omega arith)

    -- with 1 for the entry's own blocks it frees them
    pub page_frees : (k : ℕ) → ((j : ℕ) → Own s k j ↔ (j ∈ ks)) → Frees d s k (page_with d s ks 1)
    page_frees k own j low high = (there, λ w. page_out 1 (omega arith) j low high (λ m. w.1 ((own j).1 m)) ∙ w.0)
      where
        there : free_in (page_with d s ks 1) j ≡ false → (is_free s (bitmap_key_of d s) j ≡ false) × ¬ (Own s k j)
        there f = (sym (page_out 1 (omega arith) j low high none) ∙ f, λ o. none ((own j).0 o))
          where
            none : ¬ (j ∈ ks)
            none m = let q = sym (page_in 1 (omega arith) j low high m) ∙ f in impossible cc

  -- ---- all bits set: f j is 0 if and only if block j is reached

  module _ (f : ℕ → ℕ) (bits : (j : ℕ) → f j < 2) where
    abbrev changed : List ℕ
    changed = map_bits old f first_key (bit_span d)

    fits : first_key + bit_span d ≤ most_blocks
    fits = let m = z.most in let l = z.least in omega arith

    changed_long : length changed ≡ block_bytes
    changed_long = length_map_bits f bits old first_key (bit_span d) long bytes fits

    pub length_repair : length (repair_page d s f) ≡ block_bytes
    length_repair = length_mended 0 changed (omega arith) changed_long

    pub sum_repair : sum_at (repair_page d s f) 0 ≡ 0
    sum_repair = sum_mended 0 changed (omega arith) changed_long

    pub page_maps : ((j : ℕ) → first_key ≤ j → j < d.blocks → (f j ≡ 0) ↔ Used d s j) → Maps d s (repair_page d s f)
    page_maps used j low high = (
      (λ e. (used j low high).0 (zero_bit (f j) (bits j) (sym bit ∙ e))),
      (λ u. bit ∙ ap (λ x. eqb x 1) ((used j low high).1 u)),
    )
      where
        bit : free_in (repair_page d s f) j ≡ eqb (f j) 1
        bit =
            mended_bit changed changed_long j
            ∙ map_bits_in f bits j low old first_key (bit_span d) long bytes (omega arith) fits low (omega arith)

        zero_bit : (x : ℕ) → x < 2 → eqb x 1 ≡ false → x ≡ 0
        zero_bit x l e = let n = eqb-false x 1 e in omega (arith, n, l)

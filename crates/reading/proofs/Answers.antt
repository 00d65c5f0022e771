-- What it says that a read gives bytes: how many, of which file, and what the output holds (`read_exactly`,
-- `read_output`). Assumes nothing.
use Rattle.answers.specs.declared.Refusal.{Refusal}
use Rattle.std.specs.Prelude.{Result, Ok, Err}
use Prim.Native.Nat.{ℕ, ◌+◌, ◌-◌, ◌≤◌, ◌<◌, min}
use mathlib.Core.Path.{◌≡◌, refl, sym, ap, ◌∙◌}
use mathlib.Core.Logic.{◌↔◌}
use mathlib.Core.List.{List, ◌++◌}
use native.Mathlib.Omega.{arith}
use lib.ListN.{length, get_or, drop, length-append, length-take, length-drop}
use lib.Seq.{take-append_seam, get_or-take, get_or-drop, get_or-append-add}
use Rattle.answers.proofs.Clashes.{impossible}
use Rattle.volume.specs.declared.disk.Disk.{Disk}
use Rattle.volume.specs.Disks.{image_bytes}
use Rattle.volume.specs.Files.{size_of}
use Rattle.lookup.specs.declared.find.Found.{Found}
use Rattle.lookup.specs.declared.find.Found.TheVariants as found
use Rattle.lookup.specs.Lookup.{find_of}
use Rattle.reading.specs.FileTests.{blocks_fault}
use Rattle.reading.specs.Bytes.{file_bytes, part, filled_by}
use Rattle.reading.specs.Parts.{Copied}
use Rattle.reading.specs.Reads.{tested, reads, read_of, Reads}
use Rattle.reading.specs.Outcomes.{Gives, Filled}
use Rattle.reading.proofs.Contents.{file_long, part_long}
use Rattle.reading.proofs.Passing.{tested_exactly}
use Rattle.reading.proofs.Readings.{blocks_inside, image_long, file_size}

-- ---- a copy, byte by byte

module _ (bytes : List ℕ) (o : ℕ) (before : List ℕ) (m : ℕ) (after : List ℕ) (c : Copied bytes o before m after) where
  abbrev p : List ℕ
  p = part bytes o (length before)

  parts : after ≡ p ++ drop m before
  unfolding filled_by
  parts = c.output ∙ rw (← c.count) refl

  long : m ≡ min (length before) (length bytes - o)
  unfolding part
  long = c.count ∙ length-take (length before) (drop o bytes) ∙ ap (min (length before)) (length-drop o bytes)

  front : (i : ℕ) → i < m → get_or after i 0 ≡ get_or bytes (o + i) 0
  unfolding part
  front i h =
      ap (λ (l : List ℕ). get_or l i 0) parts
      ∙ sym (get_or-take (length p) (p ++ drop m before) i 0 (omega (arith, c.count)))
      ∙ ap (λ (l : List ℕ). get_or l i 0) (take-append_seam p (drop m before))
      ∙ get_or-take (length before) (drop o bytes) i 0 (omega (arith, long))
      ∙ get_or-drop o bytes i 0

  rest_kept : (i : ℕ) → m ≤ i → get_or after i 0 ≡ get_or before i 0
  rest_kept i h =
      let e : length p + (i - m) ≡ i = omega (arith, c.count) in
      let f : m + (i - m) ≡ i = omega arith in
      rw parts (ap (λ (j : ℕ). get_or (p ++ drop m before) j 0) (sym e) ∙ get_or-append-add p (drop m before) (i - m) 0
      ∙ get_or-drop m before (i - m) 0 ∙ ap (λ (j : ℕ). get_or before j 0) f)

  pub copied_filled : Filled bytes o before m after
  copied_filled =
      record {
        kept = rw (parts, length-append p (drop m before), length-drop m before) (omega (arith, long, c.count));
        room = omega (arith, long);
        there = λ i h. omega (arith, long);
        copied = front;
        rest = rest_kept;
      }

module _ (d : Disk) (s : List ℕ) (h : ℕ) (long : length s ≡ image_bytes d) (p : blocks_fault d s h ≡ Ok tt) where
  -- A file whose blocks pass has as many bytes as its size says.
  pub bytes_long : length (file_bytes d s h) ≡ size_of s h
  bytes_long = file_long d s h long (blocks_inside d s h (Ok tt) (sym p) refl)

  -- and a read copies as many as there are after the offset, and there is room for
  pub count_is : (o n : ℕ) → length (part (file_bytes d s h) o n) ≡ min n (size_of s h - o)
  count_is o n = part_long d s h long (blocks_inside d s h (Ok tt) (sym p) refl) o n

module _ (d : Disk) (s path : List ℕ) where
  -- ---- the file that a path leads to

  module _ (k z c : ℕ) (e : find_of d s path ≡ Ok (found.File k z c)) where
    pub found_long : length s ≡ image_bytes d
    found_long = image_long d s path (find_of d s path) refl k z c e

    pub found_size : z ≡ size_of s k
    found_size = file_size d s path (find_of d s path) refl k z c e

    pub count_found : blocks_fault d s k ≡ Ok tt → (o n : ℕ) → length (part (file_bytes d s k) o n) ≡ min n (z - o)
    count_found p o n = rw found_size (count_is d s k found_long p o n)

  -- ---- the count

  -- A read gives m bytes if and only if the path leads to a whole file, and m is what there is to copy.
  pub read_exactly : (o n m : ℕ) → (read_of d s path o n ≡ Ok m) ↔ Gives d s path o n m
  unfolding read_of
  read_exactly o n m = (there (find_of d s path) refl, back)
    where
      there : (f : Result Found Refusal) → find_of d s path ≡ f → reads d s path o n f ≡ Ok m → Gives d s path o n m
      there (Ok (found.Directory k c)) e q = impossible cc
      there (Err r) e q = impossible cc
      there (Ok (found.File k z c)) e q = go (blocks_fault d s k) refl q
        where
          go : (t : Result Unit Refusal) → blocks_fault d s k ≡ t → tested d s k o n t ≡ Ok m → Gives d s path o n m
          go (Ok _) p q =
              let x : m ≡ length (part (file_bytes d s k) o n) = cc in
              record {
                key = k;
                size = z;
                compared = c;
                found = e;
                whole = (tested_exactly d s k).0 p;
                count = x ∙ count_found k z c e p o n;
              }
          go (Err r) p q = impossible cc

      back : Gives d s path o n m → read_of d s path o n ≡ Ok m
      back g =
          let p = (tested_exactly d s g.key).1 g.whole in
          rw (g.found, p) (ap Ok (count_found g.key g.size g.compared g.found p o n ∙ sym g.count))

  -- ---- the output

  -- It holds the file's bytes from the offset on, and after them what it held.
  pub read_output : (o m k z c : ℕ) (output output' : List ℕ) → Reads d s path o output (Ok m) output'
      → find_of d s path ≡ Ok (found.File k z c) → Filled (file_bytes d s k) o output m output'
  read_output o m k z c output output' r e =
      let g = (read_exactly o (length output) m).0 (sym r.answer) in
      let a : g.key ≡ k = cc in
      let b : g.size ≡ z = cc in
      let p : blocks_fault d s k ≡ Ok tt = rw a at ((tested_exactly d s g.key).1 g.whole) in
      let l : m ≡ length (part (file_bytes d s k) o (length output)) =
      g.count ∙ rw b (sym (count_found k z c e p o (length output))) in
      copied_filled (file_bytes d s k) o output m output' (record { count = l; output = rw e at r.left })

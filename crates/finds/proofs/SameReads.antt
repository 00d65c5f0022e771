-- On an image with the same tree every read answers alike and leaves the same bytes (`same_read`, `same_left`). Assumes
-- nothing.
use Rattle.answers.specs.declared.Refusal.{Refusal}
use Rattle.std.specs.Prelude.{Result, Ok, Err}
use Prim.Native.Nat.{ℕ, zero, suc, ◌-◌, ◌*◌}
use mathlib.Core.Path.{◌≡◌, refl, sym, ap, ap₂, ◌∙◌}
use mathlib.Core.Logic.{inl, inr}
use mathlib.Core.Bool.{false}
use mathlib.Core.List.{List, [], ◌∷◌, ◌++◌}
use native.Mathlib.Omega.{arith}
use lib.ListN.{length, take, drop}
use lib.Seq.{drop-drop}
use Rattle.reach.specs.References.{◌∈◌, Reached}
use Rattle.volume.specs.declared.disk.Disk.{Disk}
use Rattle.volume.specs.Disks.{data_bytes, data_start}
use Rattle.volume.specs.Blocks.{slots, block_bytes, Holds, word_of, directory}
use Rattle.volume.specs.Files.{keys_here, list_blocks, lists_from, keys_from, size_of, blocks_of, lists_of, keys_of}
use Rattle.volume.specs.References.{Kind, to, references}
use Rattle.volume.specs.Law.{Tree}
use Rattle.volume.proofs.Sizes.{data_most}
use Rattle.lookup.specs.declared.find.Found.{Found}
use Rattle.lookup.specs.declared.find.Found.TheVariants as found
use Rattle.lookup.specs.Lookup.{find_of}
use Rattle.lookup.proofs.Refusing.{file_exactly}
use Rattle.lookup.proofs.OnTrees.{found_file}
use Rattle.reading.specs.Bytes.{data_of, data_in, file_bytes}
use Rattle.reading.specs.Reads.{reads, read_of, bytes_of, output_after}
use Rattle.reading.proofs.Parts.{drop_take}
use Rattle.reading.proofs.OnTrees.{file_reaches, found_passes}
use Rattle.writes.specs.Alike.{SameBlock}
use Rattle.writes.specs.Writes.{block_of}
use Rattle.writes.proofs.Edits.{block_same}
use Rattle.tree.specs.SameTree.{SameTree}
use Rattle.tree.proofs.Refers.{same_word, keys_alike}
use Rattle.tree.proofs.Entries.{SameList}
use Rattle.tree.proofs.Carrying.{key_holds}
use Rattle.tree.proofs.SameTrees.{Held, not_root, not_map}
use Rattle.finds.proofs.SameFinds.{same_find}

-- ---- a file whose blocks are the same

-- the data of a block is the end of it
data_end : (d : Disk) (s : List ℕ) (k : ℕ) → data_of d s k ≡ drop (data_start d) (block_of s k)
unfolding data_start
data_end d s k =
    let e : block_bytes - data_start d ≡ data_bytes d = omega (arith, data_most d) in
    ap (take (data_bytes d)) (sym (drop-drop (data_start d) (k * block_bytes) s))
    ∙ sym (rw e at (drop_take (data_start d) block_bytes (drop (k * block_bytes) s)))

module _ (d : Disk) (s t : List ℕ) (long : length t ≡ length s) where
  lists_same : (b q : ℕ) → word_of t b 126 ≡ word_of s b 126 → ((x : ℕ) → x ∈ lists_from s b q → SameBlock s t x)
      → lists_from t b q ≡ lists_from s b q
  unfolding lists_from
  lists_same b zero e h = refl
  lists_same b (suc q) e h =
      let y = word_of s b 126 in
      rw e (ap (λ l. y ∷ l) (lists_same y q (same_word s t y (h y (inl refl)) 126 (omega arith)) (λ x m. h x (inr m))))

  keys_same : (n : ℕ) (bs : List ℕ) → ((x : ℕ) → x ∈ bs → SameList s t x) → keys_from t n bs ≡ keys_from s n bs
  unfolding keys_from
  keys_same n [] h = refl
  keys_same n (b ∷ bs) h =
      ap₂ (λ x y. x ++ y) (keys_alike s t b 0 (keys_here n)
      (λ j p q. h b (inl refl) (77 - j) (omega arith) (omega arith) (omega arith)))
      (keys_same (n - slots) bs (λ x m. h x (inr m)))

  -- a data block, and where it lies
  abbrev pub SameData : ℕ → Type 0
  SameData x = SameBlock s t x × Holds s x

  data_same : (ks : List ℕ) → ((x : ℕ) → x ∈ ks → SameData x) → data_in d t ks ≡ data_in d s ks
  unfolding data_in
  data_same [] h = refl
  data_same (k ∷ ks) h =
      let w = h k (inl refl) in
      ap₂ (λ x y. x ++ y) (data_end d t k ∙ ap (drop (data_start d)) (block_same s t k w.1 long w.0)
      ∙ sym (data_end d s k))
      (data_same ks (λ x m. h x (inr m)))

  -- A file whose blocks are the same, but for the sum and the chain link of its header, has the same bytes.
  pub bytes_alike : (k : ℕ) → SameList s t k → ((x : ℕ) → x ∈ lists_of d s k → SameBlock s t x)
      → ((x : ℕ) → x ∈ keys_of d s k → SameData x) → file_bytes d t k ≡ file_bytes d s k
  unfolding file_bytes
  bytes_alike k h ls ds =
      let z : size_of t k ≡ size_of s k = h 81 (omega arith) (omega arith) (omega arith) in
      let q = list_blocks (blocks_of d s k) in
      let l : lists_from t k q
      ≡ lists_from s k q = lists_same k q (h 126 (omega arith) (omega arith) (omega arith)) ls in
      let n : keys_from t (blocks_of d s k) (k ∷ lists_from s k q) ≡ keys_of d s k =
      keys_same (blocks_of d s k) (k ∷ lists_from s k q) each in
      rw (z, l, n, data_same (keys_of d s k) ds) refl
    where
      each : (x : ℕ) → x ∈ (k ∷ lists_of d s k) → SameList s t x
      each x (inl q) = rw q h
      each x (inr m) = λ j l _ _. same_word s t x (ls x m) j l

-- ---- images with the same tree

module _ (d : Disk) (s t : List ℕ) (v : Tree d s) (u : Tree d t) (a : SameTree d s t) where
  held_same : (x : Kind) (k : ℕ) → Held x → Reached (references d s) (to x k) → SameBlock s t k
  held_same x k w r = a.blocks (to x k) r (not_root d s v (to x k) r w) (not_map d s v (to x k) r w)

  -- A reached file has the same bytes.
  pub same_bytes : (k : ℕ) → Reached (references d s) (to Kind.entry k) → directory s k ≡ false
      → file_bytes d t k ≡ file_bytes d s k
  same_bytes k r e =
      let w = file_reaches d s k r e (v.files k r e) in
      bytes_alike d s t a.long k (λ j l _ _. same_word s t k (held_same Kind.entry k tt r) j l)
      (λ x m. held_same Kind.list x tt (w.0 x m))
      (λ x m. (held_same Kind.datum x tt (w.1 x m), key_holds d s v (to Kind.datum x) (w.1 x m)))

  -- ---- a read

  module _ (path : List ℕ) where
    found_bytes : (k z c : ℕ) → find_of d s path ≡ Ok (found.File k z c) → file_bytes d t k ≡ file_bytes d s k
    found_bytes k z c e =
        let h = (file_exactly d s path k z c).0 e in
        same_bytes k (found_file d s v path k z c e) (rw h.key at h.kind)

    reads_same : (o n : ℕ) (r : Result Found Refusal) → find_of d s path ≡ r
        → reads d t path o n r ≡ reads d s path o n r
    reads_same o n (Ok (found.File k z c)) e =
        let p = found_passes d t u path k z c (same_find d s t v u a path ∙ e) in
        rw (p, found_passes d s v path k z c e, found_bytes k z c e) refl
    reads_same o n (Ok (found.Directory k c)) e = refl
    reads_same o n (Err r) e = refl

    bytes_same : (r : Result Found Refusal) → find_of d s path ≡ r → bytes_of d t r ≡ bytes_of d s r
    bytes_same (Ok (found.File k z c)) e = found_bytes k z c e
    bytes_same (Ok (found.Directory k c)) e = refl
    bytes_same (Err r) e = refl

    -- Every read answers alike.
    pub same_read : (o n : ℕ) → read_of d t path o n ≡ read_of d s path o n
    unfolding read_of
    same_read o n = rw (same_find d s t v u a path) (reads_same o n (find_of d s path) refl)

    -- It leaves the same bytes.
    pub same_left : (o : ℕ) (output : List ℕ) (r : Result ℕ Refusal)
        → output_after d t path o output r ≡ output_after d s path o output r
    same_left o output (Ok n) = rw (same_find d s t v u a path, bytes_same (find_of d s path) refl) refl
    same_left o output (Err r) = refl

-- In a tree the blocks of every reached file are reached, so that they pass (`tree_file_passes`); a read gives the
-- file's bytes, or 18, 19 or 20 (`tree_reads`, `tree_read_whole`, `reached_read`, `tree_read_answers`). Assumes
-- nothing.
use Rattle.answers.specs.declared.Refusal.{Refusal}
use Rattle.std.specs.Prelude.{Result, Ok}
use Prim.Native.Nat.{ℕ, zero, suc, ◌+◌, ◌-◌, ◌≤◌, min}
use mathlib.Core.Path.{◌≡◌, refl, sym, ap, ◌∙◌}
use mathlib.Core.Logic.{◌≢◌, ◌⊎◌, inl, inr}
use mathlib.Core.Bool.{false}
use mathlib.Core.List.{List, [], ◌∷◌, ◌++◌, map}
use native.Mathlib.Omega.{arith}
use lib.ListN.{length, drop}
use lib.Seq.{take_all}
use Rattle.answers.specs.Numbers as fault
use Rattle.answers.specs.Tests.{pick}
use Rattle.answers.proofs.Clashes.{impossible}
use Rattle.reach.specs.References.{◌∈◌, Reached, ref}
use Rattle.reach.proofs.Lists.{in_left, in_right, in_either, in_at, in_map}
use Rattle.volume.specs.declared.disk.Disk.{Disk}
use Rattle.volume.specs.Disks.{root_of}
use Rattle.volume.specs.Blocks.{slots, word_of, directory}
use Rattle.volume.specs.Files.{keys_here, list_blocks, keys_down, lists_from, keys_from, size_of, blocks_of, lists_of}
use Rattle.volume.specs.Files.{keys_of}
use Rattle.volume.specs.References.{Kind, Ref, to, link, key_refs, slot_refs, refers_to, references}
use Rattle.volume.specs.Law.{KeyCount, File, Tree}
use Rattle.walk.specs.Nodes.{before}
use Rattle.walk.proofs.Spreads.{Spread, here, file_spreads}
use Rattle.lookup.specs.declared.find.Found.TheVariants as found
use Rattle.lookup.specs.Paths.{longest_path}
use Rattle.lookup.specs.Lookup.{find_of}
use Rattle.lookup.proofs.Refusing.{file_exactly}
use Rattle.lookup.proofs.OnTrees.{tree_answers, found_file}
use Rattle.lookup.specs.Trails.{Lies, path_of}
use Rattle.lookup.proofs.Bridge.{reached_found}
use Rattle.reading.specs.FileTests.{blocks_fault}
use Rattle.reading.specs.Bytes.{file_bytes, part, filled_by}
use Rattle.reading.specs.Reads.{refuse, read_of, Reads}
use Rattle.reading.specs.Outcomes.{Intact, FileWhole, Refuses, of_lookup, of_directory, of_header, of_block}
use Rattle.reading.proofs.Answers.{bytes_long, found_size, read_exactly}
use Rattle.reading.proofs.Passing.{passes_tested, tested_exactly}
use Rattle.reading.proofs.Refusing.{refused_exactly}

module _ (d : Disk) (s : List ℕ) where
  abbrev B : Ref → Type 0
  B r = Reached (references d s) r

  -- ---- what a reached block of a file refers to

  refers : (r y : Ref) → B r → y ∈ refers_to s r.kind r.key → B y
  refers r y h a = let w = in_at y (refers_to s r.kind r.key) a in ref w.0 h w.1

  link_in : (a : Kind) (k : ℕ) → k ≢ 0 → to a k ∈ link a k
  link_in a zero h = absurd (h refl)
  link_in a (suc k) h = inl refl

  module _ (b n : ℕ) (l : KeyCount s b n) (f : (y : Ref) → y ∈ key_refs s b → B y) where
    keys_reached : (k : ℕ) → k ∈ keys_down s b 0 (keys_here n) → B (to Kind.datum k)
    keys_reached k a =
        f (to Kind.datum k) (in_left _ (map (to Kind.datum) (keys_down s b 0 (word_of s b 2)))
        (link Kind.list (word_of s b 126))
        (in_map (to Kind.datum) k (keys_down s b 0 (word_of s b 2)) (rw l.count a)))

    next_reached : word_of s b 126 ≢ 0 → B (to Kind.list (word_of s b 126))
    next_reached h =
        f _ (in_right _ (map (to Kind.datum) (keys_down s b 0 (word_of s b 2))) (link Kind.list (word_of s b 126))
        (link_in Kind.list _ h))

  refs_reached : (k : ℕ) → B (to Kind.list k) → (y : Ref) → y ∈ key_refs s k → B y
  unfolding refers_to
  refs_reached k h y a = refers (to Kind.list k) y h a

  -- ---- all blocks of a file

  module _ (h : ℕ) where
    -- the list blocks after b, and the data blocks of all of these
    abbrev Blocks : ℕ → ℕ → ℕ → Type 0
    Blocks q b r =
        ((k : ℕ) → k ∈ lists_from s b q → B (to Kind.list k))
        × ((k : ℕ) → k ∈ keys_from s r (b ∷ lists_from s b q) → B (to Kind.datum k))

    blocks_reached : (q b m c : ℕ) → q ≡ list_blocks (blocks_of d s h - m) → Spread d s h q b m c
        → ((y : Ref) → y ∈ key_refs s b → B y) → Blocks q b (blocks_of d s h - m)
    unfolding lists_from keys_from
    blocks_reached zero b m c e p f =
        ((λ k a. absurd a), λ k a. each k (in_either k (keys_down s b 0 (keys_here (blocks_of d s h - m))) [] a))
      where
        each : (k : ℕ) → (k ∈ keys_down s b 0 (keys_here (blocks_of d s h - m))) ⊎ (k ∈ []) → B (to Kind.datum k)
        each k (inl a) = keys_reached b _ p.0 f k a
        each k (inr a) = absurd a
    blocks_reached (suc q) b m c e p f =
        let r = next_reached b (blocks_of d s h - m) p.0 f (λ z. omega (arith, e, p.0.more.0 z)) in
        let g : blocks_of d s h - (m + here d s h m) ≡ blocks_of d s h - m - slots = omega arith in
        let w =
        blocks_reached q (word_of s b 126) (m + here d s h m) (before s b c (here d s h m)) (omega (arith, e))
        p.3 (refs_reached (word_of s b 126) r) in
        join r (rw g at w)
      where
        join : B (to Kind.list (word_of s b 126)) → Blocks q (word_of s b 126) (blocks_of d s h - m - slots)
            → Blocks (suc q) b (blocks_of d s h - m)
        join r w = (lists, λ k a. each k (in_either k (keys_down s b 0 (keys_here (blocks_of d s h - m))) _ a))
          where
            lists : (k : ℕ) → k ∈ (word_of s b 126 ∷ lists_from s (word_of s b 126) q) → B (to Kind.list k)
            lists k (inl a) = rw a r
            lists k (inr a) = w.0 k a

            each : (k : ℕ)
                → (k ∈ keys_down s b 0 (keys_here (blocks_of d s h - m)))
                ⊎ (k ∈ keys_from s (blocks_of d s h - m - slots) (word_of s b 126 ∷ lists_from s (word_of s b 126) q))
                → B (to Kind.datum k)
            each k (inl a) = keys_reached b _ p.0 f k a
            each k (inr a) = w.1 k a

    contents_reached : B (to Kind.entry h) → directory s h ≡ false → (y : Ref) → y ∈ key_refs s h → B y
    unfolding refers_to pick
    contents_reached r e y a =
        refers (to Kind.entry h) y r
        (in_left y (pick (directory s h) (slot_refs s h 0 slots) (key_refs s h)) (link Kind.entry (word_of s h 124))
        (rw e a))

    -- The list blocks and the data blocks of a reached file are reached.
    pub file_reaches : B (to Kind.entry h) → directory s h ≡ false → File d s h
        → ((k : ℕ) → k ∈ lists_of d s h → B (to Kind.list k)) × ((k : ℕ) → k ∈ keys_of d s h → B (to Kind.datum k))
    file_reaches r e f =
        let z : blocks_of d s h - 0 ≡ blocks_of d s h = omega arith in
        rw z at (blocks_reached (list_blocks (blocks_of d s h)) h 0 h (ap list_blocks (sym z))
        ((file_spreads d s h).0 f).2 (contents_reached r e))

-- ---- a tree

-- an output with room for all bytes
filled_whole : (bytes output : List ℕ) → length bytes ≤ length output
    → filled_by bytes 0 output ≡ bytes ++ drop (length bytes) output
unfolding filled_by part
filled_whole bytes output h = rw (take_all (length output) bytes h) refl

module _ (d : Disk) (s : List ℕ) (v : Tree d s) where
  intact : (a : Kind) (k : ℕ) → Reached (references d s) (to a k) → Intact d s a k
  intact a k r =
      let p = v.keys (to a k) r in record { inside = record { low = p.0; high = p.1 }; sum = v.sums (to a k) r }

  -- Every reached file is whole, and passes its tests.
  pub tree_file_whole : (k : ℕ) → Reached (references d s) (to Kind.entry k) → directory s k ≡ false → FileWhole d s k
  tree_file_whole k r e =
      let w = file_reaches d s k r e (v.files k r e) in
      record {
        file = v.files k r e;
        lists = λ b a. intact Kind.list b (w.0 b a);
        keys = λ b a. intact Kind.datum b (w.1 b a);
      }

  pub tree_file_passes : (k : ℕ) → Reached (references d s) (to Kind.entry k) → directory s k ≡ false
      → blocks_fault d s k ≡ Ok tt
  tree_file_passes k r e = passes_tested d s k (tree_file_whole k r e)

  module _ (path : List ℕ) where
    module _ (k z c : ℕ) (e : find_of d s path ≡ Ok (found.File k z c)) where
      pub found_passes : blocks_fault d s k ≡ Ok tt
      found_passes =
          let h = (file_exactly d s path k z c).0 e in
          tree_file_passes k (found_file d s v path k z c e) (rw h.key at h.kind)

      -- A read of a file gives its bytes from the offset on.
      pub tree_reads : (o n : ℕ) → read_of d s path o n ≡ Ok (min n (z - o))
      tree_reads o n =
          (read_exactly d s path o n (min n (z - o))).1
          (record {
            key = k;
            size = z;
            compared = c;
            found = e;
            whole = (tested_exactly d s k).0 found_passes;
            count = refl;
          })

      -- From offset 0 into room for all of it, it gives the whole file.
      pub tree_read_whole : (output output' : List ℕ) (r : Result ℕ Refusal) → z ≤ length output
          → Reads d s path 0 output r output'
          → (r ≡ Ok z) × (length (file_bytes d s k) ≡ z) × (output' ≡ file_bytes d s k ++ drop z output)
      tree_read_whole output output' r l h =
          let m : min (length output) (z - 0) ≡ z = omega arith in
          let a : r ≡ Ok z = h.answer ∙ tree_reads 0 (length output) ∙ ap Ok m in
          let b : length (file_bytes d s k) ≡ z =
          bytes_long d s k v.long found_passes ∙ sym (found_size d s path k z c e) in
          (a, b, h.left ∙ rw (a, e) (filled_whole (file_bytes d s k) output (omega arith) ∙ rw b refl))

    -- A read of any path gives bytes, 18, 19 or 20.
    pub tree_read_answers : (o n w i : ℕ) → read_of d s path o n ≡ refuse w i
        → (w ≡ fault.path_form) ⊎ (w ≡ fault.not_found) ⊎ (w ≡ fault.wrong_kind)
    tree_read_answers o n w i q = go ((refused_exactly d s path o n w i).0 q)
      where
        none : (k z c : ℕ) → find_of d s path ≡ Ok (found.File k z c) → ⊥
        none k z c e = let y = tree_reads k z c e o n in impossible cc

        go : Refuses d s path w i → (w ≡ fault.path_form) ⊎ (w ≡ fault.not_found) ⊎ (w ≡ fault.wrong_kind)
        go (of_lookup e) = tree_answers d s v path w i e
        go (of_directory t c e a b) = inr (inr a)
        go (of_header z c e f) = absurd (none i z c e)
        go (of_block h z c e f u) = absurd (none h z c e)

  -- Every reached file is read whole by its path, if that is not too long.
  pub reached_read : (k : ℕ) (h : Lies s (root_of d) k) → directory s k ≡ false
      → length (path_of s (root_of d) k h) ≤ longest_path → (output output' : List ℕ) (r : Result ℕ Refusal)
      → size_of s k ≤ length output → Reads d s (path_of s (root_of d) k h) 0 output r output'
      → (r ≡ Ok (size_of s k)) × (length (file_bytes d s k) ≡ size_of s k)
      × (output' ≡ file_bytes d s k ++ drop (size_of s k) output)
  unfolding pick
  reached_read k h e l output output' r m q =
      let w = reached_found d s v k h l in
      tree_read_whole (path_of s (root_of d) k h) k (size_of s k) w.0 (rw e at w.1) output output' r m q

-- A delete of a leaf of a volume. Cut off after any of its writes, every find and every read answers as before, or as
-- after all of them (`delete_answers`), and a repair then leaves a volume that does so too (`cut_repaired`,
-- `cut_answers`). All of them leave a volume (`delete_lawful`): there each path at the entry's path or below it is 19
-- (`delete_gone`), and every other answers as before, but for how many entries were compared (`delete_stays`). Assumes
-- nothing.
use Rattle.std.specs.Prelude.{Result, Ok, Err}
use Prim.Native.Nat.{ℕ, ◌^◌, ◌≤◌, ◌<◌}
use mathlib.Core.Path.{◌≡◌, refl, sym, ap, ◌∙◌}
use mathlib.Core.Logic.{◌⊎◌, inl, inr, ◌↔◌}
use mathlib.Core.Bool.{false}
use mathlib.Core.List.{List}
use native.Mathlib.Omega.{arith}
use lib.ListN.{length, take}
use Rattle.answers.specs.Numbers as fault
use Rattle.answers.specs.declared.Refusal.{Refusal}
use Rattle.words.specs.Word.{Bytes}
use Rattle.words.specs.Sum.{sum_at}
use Rattle.words.proofs.Words.{word_at_lt}
use Rattle.reach.specs.References.{Reached, top}
use Rattle.volume.specs.declared.disk.Disk.{Disk}
use Rattle.volume.specs.Disks.{Sized, first_key}
use Rattle.volume.specs.Blocks.{block_bytes, word_of, directory}
use Rattle.volume.specs.References.{Kind, Ref, to, references}
use Rattle.volume.specs.Law.{Tree, Used, Volume}
use Rattle.lookup.specs.declared.find.Found.{Found}
use Rattle.lookup.specs.declared.find.Found.TheVariants as found
use Rattle.lookup.specs.Paths.{path_fault}
use Rattle.lookup.specs.Lookup.{refuse, find_of}
use Rattle.lookup.proofs.Refusing.{file_exactly}
use Rattle.lookup.proofs.OnTrees.{found_file}
use Rattle.reading.specs.Bytes.{file_bytes, filled_by}
use Rattle.reading.specs.Reads.{last_component, reads, read_of, bytes_of, output_after}
use Rattle.reading.proofs.OnTrees.{file_reaches, found_passes}
use Rattle.writes.specs.Alike.{Alike, SameBlock}
use Rattle.writes.proofs.Alike.{alike_word}
use Rattle.writes.specs.Writes.{Write, carried}
use Rattle.tree.specs.SameTree.{SameTree}
use Rattle.tree.specs.Links.{Links}
use Rattle.tree.specs.OwnBlocks.{key_of, Mine, own_blocks}
use Rattle.tree.specs.Pointers.{Pointed, Leaf}
use Rattle.tree.specs.Pages.{repair_page}
use Rattle.tree.specs.Repairs.{repaired, repair_writes}
use Rattle.tree.specs.Deletes.{unhooked, deleted, delete_writes, delete_page}
use Rattle.tree.proofs.Carrying.{key_holds}
use Rattle.tree.proofs.Entries.{no_file_link}
use Rattle.tree.proofs.Changed.{Holding}
use Rattle.tree.proofs.SameTrees.{Held, not_root, not_map, same_reached}
use Rattle.tree.proofs.Cuts.{Bare, leaf_mine}
use Rattle.tree.proofs.Kept.{Kept, alike_kept, then_same, same_entry}
use Rattle.tree.proofs.Marking.{map_holds}
use Rattle.tree.proofs.Repairing.{repaired_same}
use Rattle.tree.proofs.DeleteCuts.{delete_reached, delete_apart, delete_alike, delete_bare, unhooked_tree, delete_cut}
use Rattle.tree.proofs.DeleteCuts.{delete_volume}
use Rattle.tree.proofs.OwnKeys.{own_keys, keys_ranged}
use Rattle.tree.proofs.Pages.{length_page, sum_page, page_frees}
use Rattle.finds.specs.Answers.{SameAnswers, Like, LikeAnswers, LeadsTo, Under}
use Rattle.finds.proofs.SameReads.{bytes_alike}
use Rattle.finds.proofs.Holdings.{leaf_empty}
use Rattle.finds.proofs.Likes.{Lacks}
use Rattle.finds.proofs.Ways.{path_gone, path_stays}
use Rattle.finds.proofs.AfterRepair.{same_answers, repair_lawful, repair_answers}

answers_trans : (d : Disk) (s t u : List ℕ) → SameAnswers d s t → SameAnswers d t u → SameAnswers d s u
answers_trans d s t u a b =
    record {
      finds = λ path. b.finds path ∙ a.finds path;
      reads = λ path o n. b.reads path o n ∙ a.reads path o n;
      left = λ path o output r. b.left path o output r ∙ a.left path o output r;
    }

-- answers that are alike are of one sort
data Alikes (f g : Result Found Refusal) : Type 0 where
  files : (y w n m : ℕ) → f ≡ Ok (found.File y w n) → g ≡ Ok (found.File y w m) → Alikes f g
  directories : (y n m : ℕ) → f ≡ Ok (found.Directory y n) → g ≡ Ok (found.Directory y m) → Alikes f g
  refusals : (r : Refusal) → f ≡ Err r → g ≡ Err r → Alikes f g

alikes : (f g : Result Found Refusal) → Like f g → Alikes f g
alikes (Ok (found.Directory k n)) (Ok (found.Directory l m)) e = directories k n m refl (rw e refl)
alikes (Ok (found.Directory k n)) (Ok (found.File l z m)) e = absurd e
alikes (Ok (found.Directory k n)) (Err r) e = absurd e
alikes (Ok (found.File k y n)) (Ok (found.Directory l m)) e = absurd e
alikes (Ok (found.File k y n)) (Ok (found.File l z m)) e = files k y n m refl (rw (e.0, e.1) refl)
alikes (Ok (found.File k y n)) (Err r) e = absurd e
alikes (Err r) (Ok (found.Directory l m)) e = absurd e
alikes (Err r) (Ok (found.File l z m)) e = absurd e
alikes (Err r) (Err q) e = refusals r refl (rw e refl)

read_is : (d : Disk) (s path : List ℕ) (o n : ℕ) → read_of d s path o n ≡ reads d s path o n (find_of d s path)
unfolding read_of
read_is d s path o n = refl

-- of a volume s the leaf k, to which a word points
module _ (d : Disk) (z : Sized d) (s : List ℕ) (b : Bytes s) (v : Volume d s) (k : ℕ) (q : Pointed d s k)
    (leaf : Leaf s k) where
  tree : Tree d s
  tree = v.tree

  abbrev page : List ℕ
  page = delete_page d s k

  -- all of the writes, the first j of them, the image after all of them
  abbrev pub writes : List Write
  writes = delete_writes d s q.from.key q.word k (delete_page d s k)

  abbrev pub cut_at : ℕ → List ℕ
  cut_at j = carried s (take j (delete_writes d s q.from.key q.word k (delete_page d s k)))

  abbrev pub end : List ℕ
  end = deleted d s q.from.key q.word k (delete_page d s k)

  -- the image after two of them
  abbrev mid : List ℕ
  mid = unhooked d s q.from.key q.word k

  long : length page ≡ block_bytes
  long =
      length_page d z s (map_holds d s tree) b (own_blocks d s k) (keys_ranged d s tree k q.entry leaf z) 1
      (omega arith)

  sum : sum_at page 0 ≡ 0
  sum =
      sum_page d z s (map_holds d s tree) b (own_blocks d s k) (keys_ranged d s tree k q.entry leaf z) 1 (omega arith)

  next : word_of s k 124 < 2 ^ 32
  next = word_at_lt s _ b

  pub delete_whole : (j : ℕ) → Tree d (cut_at j) × (SameTree d s (cut_at j) ⊎ SameTree d end (cut_at j))
  delete_whole = delete_cut d s tree k q leaf next page long sum

  -- All of the writes leave a volume.
  pub delete_lawful : Volume d end
  delete_lawful =
      delete_volume d s tree k q leaf next page long sum z v.bits
      (page_frees d z s (map_holds d s tree) b (own_blocks d s k) (keys_ranged d s tree k q.entry leaf z) k
      (own_keys d s tree k q.entry leaf))

  -- After any number of them each find and each read answers as before, or as after all of them.
  pub delete_answers : (j : ℕ) → SameAnswers d s (cut_at j) ⊎ SameAnswers d end (cut_at j)
  delete_answers j = go (delete_whole j).1
    where
      go : SameTree d s (cut_at j) ⊎ SameTree d end (cut_at j)
          → SameAnswers d s (cut_at j) ⊎ SameAnswers d end (cut_at j)
      go (inl a) = inl (same_answers d s (cut_at j) tree (delete_whole j).0 a)
      go (inr a) = inr (same_answers d end (cut_at j) delete_lawful.tree (delete_whole j).0 a)

  -- ---- a repair after a cut

  module _ (j : ℕ) (bytes : Bytes (cut_at j)) (f : ℕ → ℕ) (bits : (i : ℕ) → f i < 2)
      (used : (i : ℕ) → first_key ≤ i → i < d.blocks → (f i ≡ 0) ↔ Used d (cut_at j) i) where
    -- All of its writes leave a volume.
    pub cut_repaired : Volume d (repaired d (cut_at j) (repair_page d (cut_at j) f))
    cut_repaired = repair_lawful d z (cut_at j) bytes (delete_whole j).0 f bits used

    -- After any number of them each find and each read answers as before the delete, or as after it.
    pub cut_answers : (i : ℕ) → let t =
        carried (cut_at j) (take i (repair_writes d (cut_at j) (repair_page d (cut_at j) f))) in SameAnswers d s t
        ⊎ SameAnswers d end t
    cut_answers i = go (delete_answers j)
      where
        t : List ℕ
        t = carried (cut_at j) (take i (repair_writes d (cut_at j) (repair_page d (cut_at j) f)))

        on : SameAnswers d (cut_at j) t
        on = repair_answers d z (cut_at j) bytes (delete_whole j).0 f bits used i

        go : SameAnswers d s (cut_at j) ⊎ SameAnswers d end (cut_at j) → SameAnswers d s t ⊎ SameAnswers d end t
        go (inl a) = inl (answers_trans d s (cut_at j) t a on)
        go (inr a) = inr (answers_trans d end (cut_at j) t a on)

  -- ---- what is left

  tree₂ : Tree d mid
  tree₂ = unhooked_tree d s tree k q leaf next

  same₂ : SameTree d mid end
  same₂ = repaired_same d mid tree₂ page long sum

  in_mid : (r : Ref) → Reached (references d end) r → Reached (references d mid) r
  in_mid r h = (same_reached d mid tree₂ end same₂ r).1 h

  was : (r : Ref) → Reached (references d end) r → Reached (references d s) r
  was r h = (delete_reached d s tree k q leaf next r).1 (inl (in_mid r h))

  stays : (y : ℕ) → Reached (references d s) (to Kind.entry y) → (y ≡ k) ⊎ Reached (references d end) (to Kind.entry y)
  stays y h = go ((delete_reached d s tree k q leaf next (to Kind.entry y)).0 h)
    where
      mine : (to Kind.entry y ≡ to Kind.entry k) ⊎ Bare Kind.entry → y ≡ k
      mine (inl e) = ap key_of e
      mine (inr b) = absurd b

      go : Reached (references d mid) (to Kind.entry y) ⊎ Mine s k (to Kind.entry y)
          → (y ≡ k) ⊎ Reached (references d end) (to Kind.entry y)
      go (inl a) = inr ((same_reached d mid tree₂ end same₂ (to Kind.entry y)).0 a)
      go (inr a) = inl (mine (leaf_mine s k leaf a))

  -- an entry that is left is alike but for links
  alike : (y : ℕ) → Reached (references d end) (to Kind.entry y) → Alike (Links s y) s end y
  alike y h =
      let a = in_mid (to Kind.entry y) h in
      then_same s mid end y (delete_alike d s tree k q leaf next y a) (same_entry d mid tree₂ end same₂ y a)

  kept : (y : ℕ) → Reached (references d end) (to Kind.entry y) → Kept s end y
  kept y h =
      alike_kept s end y (alike y h) (key_holds d s tree (to Kind.entry y) (was (to Kind.entry y) h))
      (key_holds d end delete_lawful.tree (to Kind.entry y) h) (tree.entries y (was (to Kind.entry y) h))

  gone : Reached (references d end) (to Kind.entry k) → ⊥
  gone h =
      delete_apart d s tree k q leaf next (to Kind.entry k) (to Kind.entry k) (in_mid (to Kind.entry k) h) (top refl)
      refl

  -- The new volume is the old one without the entry.
  pub delete_lacks : Lacks d s end k
  delete_lacks =
      record {
        empty = λ y h. leaf_empty d s tree k y q.entry leaf h;
        gone = gone;
        was = λ y h. was (to Kind.entry y) h;
        stays = stays;
        parent = λ y h. (kept y h).parent;
        name = λ y h. (kept y h).name;
        kind = λ y h. (kept y h).kind;
        size = λ y h. (kept y h).size;
      }

  -- a list block or a data block that is left is the same
  bare : (r : Ref) → Reached (references d end) r → Held r.kind → (Holding r.kind → ⊥) → SameBlock end s r.key
  bare r g w n i l x =
      let m = in_mid r g in
      sym (same₂.blocks r m (not_root d mid tree₂ r m w) (not_map d mid tree₂ r m w) i l x
      ∙ delete_bare d s tree k q leaf next r m w n i l x)

  -- A file that is left has the bytes that it had.
  pub delete_bytes : (y : ℕ) → Reached (references d end) (to Kind.entry y) → directory end y ≡ false
      → file_bytes d s y ≡ file_bytes d end y
  delete_bytes y h e =
      let w = file_reaches d end y h e (delete_lawful.tree.files y h e) in
      let f : directory s y ≡ false = sym (kept y h).kind ∙ e in
      bytes_alike d end s (tree.long ∙ sym delete_lawful.tree.long) y
      (λ j l a b. sym (alike_word (Links s y) s end y (alike y h) j l (no_file_link s y j f a b)))
      (λ x m. bare (to Kind.list x) (w.0 x m) tt (λ z. z))
      (λ x m. (
        bare (to Kind.datum x) (w.1 x m) tt (λ z. z),
        key_holds d end delete_lawful.tree (to Kind.datum x)
            (w.1 x m),
      ))

  -- ---- each path; p is one that leads to the entry

  module _ (p : List ℕ) (leads : LeadsTo d s p k) (path : List ℕ) where
    -- At p and below it every path of a good form is 19, at the last component of p.
    pub delete_gone : Under d p path → path_fault path ≡ Ok tt
        → find_of d end path ≡ refuse fault.not_found (last_component p)
    delete_gone = path_gone d s end tree delete_lawful.tree k delete_lacks p leads q.entry path

    module _ (other : Under d p path → ⊥) where
      finds_like : Like (find_of d s path) (find_of d end path)
      finds_like = path_stays d s end tree delete_lawful.tree k delete_lacks p leads path other

      found_bytes : (y w c : ℕ) → find_of d end path ≡ Ok (found.File y w c) → file_bytes d end y ≡ file_bytes d s y
      found_bytes y w c e =
          let h = (file_exactly d end path y w c).0 e in
          sym (delete_bytes y (found_file d end delete_lawful.tree path y w c e) (rw h.key at h.kind))

      reads_like : (o n : ℕ) (f g : Result Found Refusal) → find_of d s path ≡ f → find_of d end path ≡ g → Alikes f g
          → reads d end path o n g ≡ reads d s path o n f
      reads_like o n f g a c (files y w i m e h) =
          rw (
            e,
            h,
            found_passes d end delete_lawful.tree path y w m (c ∙ h),
            found_passes d s tree path y w i
                (a ∙ e),
            found_bytes y w m (c ∙ h),
          ) refl
      reads_like o n f g a c (directories y i m e h) = rw (e, h) refl
      reads_like o n f g a c (refusals r e h) = rw (e, h) refl

      bytes_like : (f g : Result Found Refusal) → find_of d s path ≡ f → find_of d end path ≡ g → Alikes f g
          → bytes_of d end g ≡ bytes_of d s f
      bytes_like f g a c (files y w i m e h) = rw (e, h) (found_bytes y w m (c ∙ h))
      bytes_like f g a c (directories y i m e h) = rw (e, h) refl
      bytes_like f g a c (refusals r e h) = rw (e, h) refl

      -- Every other path answers as before, but for how many entries were compared.
      pub delete_stays : LikeAnswers d s end path
      delete_stays = record { finds = finds_like; reads = reads'; left = left' }
        where
          sorts : Alikes (find_of d s path) (find_of d end path)
          sorts = alikes (find_of d s path) (find_of d end path) finds_like

          reads' : (o n : ℕ) → read_of d end path o n ≡ read_of d s path o n
          reads' o n =
              read_is d end path o n ∙ reads_like o n (find_of d s path) (find_of d end path) refl refl sorts
              ∙ sym (read_is d s path o n)

          left' : (o : ℕ) (output : List ℕ) (r : Result ℕ Refusal)
              → output_after d end path o output r ≡ output_after d s path o output r
          left' o output (Ok n) =
              ap (λ x. filled_by x o output) (bytes_like (find_of d s path) (find_of d end path) refl refl sorts)
          left' o output (Err r) = refl

-- A load of a file that is hunks, written out, in the terms of the page: its records, its memory, its targets with
-- their bytes in the file. Assumes nothing.
use Rattle.std.proofs.Common.{◌≡◌, ℕ, suc, ◌+◌, ◌-◌, ◌*◌, ◌/◌, ◌%◌, ◌≤◌, List, [], ◌∷◌, ◌++◌, map, length, take, drop}
use Rattle.std.proofs.Common.{replicate, sym, refl, ap, ◌∙◌, append_assoc, arith, length-append, take_at}
use mathlib.Core.List.{map-append}
use lib.ListN.{length-replicate, replicate-append-replicate}
use Rattle.words.specs.Word.{words_at, set_word}
use Rattle.words.specs.Shift.{Target, shift_all}
use Rattle.program.specs.declared.act.Act.{Act}
use Rattle.program.specs.declared.act.Act.TheVariants.{Quiet, Body, Store, Add}
use Rattle.program.specs.Page.{Hunk, code, stores, bss, joined, hunk_words, written, Each, body_count, stored_words}
use Rattle.program.specs.Page.{HunkFits, Program, total}
use Rattle.program.specs.Page as page
use Rattle.program.specs.Spaces.{Space}
use Rattle.program.specs.Header.{total_of, space_of}
use Rattle.program.specs.Acts.{acts_of, pass}
use Rattle.program.specs.Cursors.{place_of}
use Rattle.program.proofs.Taken.{AllSpaces}
use Rattle.program.proofs.Spaces.{size_same}
use Rattle.program.proofs.Pages.{is_total, all_spaces}
use Rattle.loader.specs.Memory.{loaded_of, store_one, with_stored, targets, targets_of, amount_of, bodies_of, load_of}
use Rattle.loader.specs.Memory.{moved, move_of}
use Rattle.loader.specs.Table.{record_of, record_length, with_numbers, record_one, with_records, table_room}
use Rattle.loader.specs.Table.{records_of}
use Rattle.loader.specs.Pages.{PageTarget, kind_of, record_numbers, word_bytes, hunk_bytes, image_of, hunk_at}
use Rattle.loader.specs.Pages.{hunks_at, file_targets, bare, relocated}
use Rattle.loader.proofs.Copies.{over}
use Rattle.loader.proofs.PageActs.{plain, storing, adding, page_acts, page_acts_lem}

-- ---- passes

module _ {X : Type 0} (g : X → Act → X) where
  -- quiet acts change nothing
  pass_plain : ((x : X) → g x Quiet ≡ x) → (x : X) (us : List Act) → pass g x us ≡ pass g x (plain us)
  unfolding pass plain
  pass_plain quiet x [] = refl
  pass_plain quiet x (Quiet ∷ us) = rw (quiet x) (pass_plain quiet x us)
  pass_plain quiet x (Body h p k ∷ us) = pass_plain quiet (g x (Body h p k)) us
  pass_plain quiet x (Store p w ∷ us) = pass_plain quiet (g x (Store p w)) us
  pass_plain quiet x (Add p k b ∷ us) = pass_plain quiet (g x (Add p k b)) us

  pass_storing : ((x : X) (p w : ℕ) → g x (Store p w) ≡ x) → (x : X) (p i : ℕ) (ws : List ℕ) (l : List Act)
      → pass g x (storing p i ws l) ≡ pass g x l
  unfolding pass
  pass_storing still x p i [] l = refl
  pass_storing still x p i (w ∷ ws) l =
      ap (λ (y : X). pass g y (storing p (i + 1) ws l)) (still x (p + 4 * i) w) ∙ pass_storing still x p (i + 1) ws l

  pass_adding : ((x : X) (p k b : ℕ) → g x (Add p k b) ≡ x) → (x : X) (xs : List PageTarget) (l : List Act)
      → pass g x (adding xs l) ≡ pass g x l
  unfolding pass
  pass_adding still x [] l = refl
  pass_adding still x (y ∷ xs) l =
      ap (λ (z : X). pass g z (adding xs l)) (still x y.loaded_at y.named y.byte) ∙ pass_adding still x xs l

-- ---- numbers in a row

-- a stored word is four numbers put there: its bytes
word_over : (m : List ℕ) (p w : ℕ) → set_word m p w ≡ with_numbers m p (word_bytes w)
unfolding set_word with_numbers
word_over m p w =
    let two : p + 2 ≡ p + 1 + 1 = omega arith in
    let three : p + 3 ≡ p + 1 + 1 + 1 = omega arith in
    rw (two, three)

zeros_two : (a b n : ℕ) (more : List ℕ) → n ≡ a + b
    → replicate n 0 ++ more ≡ replicate a 0 ++ (replicate b 0 ++ more)
zeros_two a b n more e =
    rw (e, ← replicate-append-replicate {A = ℕ} a b 0) (append_assoc (replicate a 0) (replicate b 0) more)

zeros_three : (a b c n : ℕ) (more : List ℕ) → n ≡ a + (b + c)
    → replicate n 0 ++ more ≡ replicate a 0 ++ (replicate b 0 ++ (replicate c 0 ++ more))
zeros_three a b c n more e =
    zeros_two a (b + c) n more e ∙ ap (λ (l : List ℕ). replicate a 0 ++ l) (zeros_two b c (b + c) more refl)

-- ---- records

module _ (file bases : List ℕ) (t : ℕ) where
  records_on : (hs : List Hunk) (h p at : ℕ) (done more : List ℕ) → AllSpaces t (space_of file) h hs
      → length done ≡ record_length * h
      → with_records file bases (done ++ (replicate (record_length * length hs) 0 ++ more)) (page_acts h p at hs) ≡ done
      ++ (record_numbers p h hs bases ++ more)
  unfolding pass
  records_on [] h p at done more f e = refl
  records_on (x ∷ xs) h p at done more f e =
      let one : Space → List ℕ = λ s. record_of (kind_of x.body) p s (amount_of bases h) in
      let k : length (done ++ one x.space) ≡ record_length * (h + 1) =
      omega (arith, length-append done (one x.space)) in
      let more' : List ℕ = replicate (record_length * length xs) 0 ++ more in
      let q : List Act = page_acts (h + 1) (p + 4 * x.space.size) (at + 4 * length (hunk_words x)) xs in
      let r =
      records_on xs (h + 1) (p + 4 * x.space.size) (at + 4 * length (hunk_words x))
      (done ++ one x.space) more f.2 k in
      ap (λ (u : List ℕ). with_records file bases (done ++ u) (page_acts h p at (x ∷ xs)))
      (zeros_two record_length (record_length * length xs) (record_length * suc (length xs)) more (omega arith))
      ∙ pass_storing (record_one file bases) (λ u a b. refl) _ p 0 (stored_words x.body) (adding (hunk_at h p at x) q)
      ∙ pass_adding (record_one file bases) (λ u a b c. refl) _ (hunk_at h p at x) q
      ∙ ap (λ (u : List ℕ). with_records file bases u q)
      (over done (replicate record_length 0) more' (one (space_of file h)) (record_length * h) refl e)
      ∙ rw (← f.0) (rw (append_assoc done (one x.space) more', append_assoc done (one x.space)) at r)

pub length_numbers : (p i : ℕ) (hs : List Hunk) (bases : List ℕ)
    → length (record_numbers p i hs bases) ≡ record_length * length hs
length_numbers p i [] bases = refl
length_numbers p i (x ∷ xs) bases = omega (arith, length_numbers (p + 4 * x.space.size) (i + 1) xs bases)

-- ---- memory

length_words : (ws : List ℕ) → length (joined word_bytes ws) ≡ 4 * length ws
length_words [] = refl
length_words (w ∷ ws) = omega (arith, length_words ws)

stores_on : (p i : ℕ) (ws done more : List ℕ) (l : List Act) → length done ≡ p + 4 * i
    → with_stored (done ++ (replicate (4 * length ws) 0 ++ more)) (storing p i ws l) ≡ with_stored
    (done ++ (joined word_bytes ws ++ more)) l
unfolding pass
stores_on p i [] done more l e = refl
stores_on p i (w ∷ ws) done more l e =
    let more' : List ℕ = replicate (4 * length ws) 0 ++ more in
    let k : length (done ++ word_bytes w) ≡ p + 4 * (i + 1) = omega (arith, length-append done (word_bytes w)) in
    let r = stores_on p (i + 1) ws (done ++ word_bytes w) more l k in
    ap (λ (u : List ℕ). with_stored (done ++ u) (storing p i (w ∷ ws) l))
    (zeros_two 4 (4 * length ws) (4 * suc (length ws)) more (omega arith))
    ∙ ap (λ (u : List ℕ). with_stored u (storing p (i + 1) ws l))
    (word_over _ (p + 4 * i) w ∙ over done (replicate 4 0) more' (word_bytes w) (p + 4 * i) refl e)
    ∙ (rw (append_assoc done (word_bytes w) more', append_assoc done (word_bytes w)) at r)

pub stored_fit : (b : page.Body) → length (stored_words b) ≤ body_count b
stored_fit (code ws) = omega arith
stored_fit (stores ws) = omega arith
stored_fit (bss n) = omega arith

length_hunk : (t : ℕ) (x : Hunk) → HunkFits t x → length (hunk_bytes x) ≡ 4 * x.space.size
length_hunk t x f =
    let ws : List ℕ = stored_words x.body in
    let n : ℕ = 4 * (x.space.size - length ws) in
    omega (
      arith,
      stored_fit x.body,
      f.body,
      length-append (joined word_bytes ws) (replicate n 0),
      length_words ws,
      length-replicate {A = ℕ} n 0,
    )

pub length_image : (t : ℕ) (hs : List Hunk) → Each (HunkFits t) hs → length (image_of hs) ≡ 4 * total hs
length_image t [] f = refl
length_image t (x ∷ xs) f =
    omega (arith, length-append (hunk_bytes x) (image_of xs), length_hunk t x f.0, length_image t xs f.1)

bodies_on : (t : ℕ) (space : ℕ → Space) (hs : List Hunk) (h p at : ℕ) (done more : List ℕ) → AllSpaces t space h hs
    → length done ≡ p
    → with_stored (done ++ (replicate (4 * total hs) 0 ++ more)) (page_acts h p at hs) ≡ done ++ (image_of hs ++ more)
unfolding pass
bodies_on t space [] h p at done more f e = refl
bodies_on t space (x ∷ xs) h p at done more f e =
    let ws : List ℕ = stored_words x.body in
    let b : ℕ = x.space.size - length ws in
    let q : List Act = page_acts (h + 1) (p + 4 * x.space.size) (at + 4 * length (hunk_words x)) xs in
    let more' : List ℕ = replicate (4 * total xs) 0 ++ more in
    let fit = stored_fit x.body in
    let room = f.1.body in
    let z : 4 * (x.space.size + total xs) ≡ 4 * length ws + (4 * b + 4 * total xs) = omega arith in
    let a : length done ≡ p + 4 * 0 = omega arith in
    let k : length (done ++ hunk_bytes x) ≡ p + 4 * x.space.size =
    omega (arith, length-append done (hunk_bytes x), length_hunk t x f.1) in
    let r =
    bodies_on t space xs (h + 1) (p + 4 * x.space.size) (at + 4 * length (hunk_words x)) (done ++ hunk_bytes x) more
    f.2 k in
    ap (λ (u : List ℕ). with_stored (done ++ u) (page_acts h p at (x ∷ xs)))
    (zeros_three (4 * length ws) (4 * b) (4 * total xs) _ more z)
    ∙ stores_on p 0 ws done (replicate (4 * b) 0 ++ more') (adding (hunk_at h p at x) q) a
    ∙ pass_adding store_one (λ u c d b. refl) _ (hunk_at h p at x) q
    ∙ simp append_assoc (simp append_assoc at r)

place_total : (t : ℕ) (space : ℕ → Space) (hs : List Hunk) (h : ℕ) → AllSpaces t space h hs
    → place_of space t ≡ place_of space h + 4 * total hs
unfolding place_of
place_total t space [] h f = let e : h ≡ t = f in ap (place_of space) (sym e) ∙ omega arith
place_total t space (x ∷ xs) h f =
    let q : h + 1 ≡ suc h = omega arith in
    let r : place_of space (h + 1) ≡ place_of space h + 4 * (space h).size = ap (place_of space) q in
    omega (arith, place_total t space xs (h + 1) f.2, r, size_same f.0)

-- ---- targets

targets_plain : (us : List Act) → targets us ≡ targets (plain us)
unfolding targets plain
targets_plain [] = refl
targets_plain (Quiet ∷ us) = targets_plain us
targets_plain (Body h p k ∷ us) = targets_plain us
targets_plain (Store p w ∷ us) = targets_plain us
targets_plain (Add p k b ∷ us) =
    ap (λ (l : List Target). record { loaded_at = p; key = k; byte = b } ∷ l) (targets_plain us)

targets_storing : (p i : ℕ) (ws : List ℕ) (l : List Act) → targets (storing p i ws l) ≡ targets l
unfolding targets
targets_storing p i [] l = refl
targets_storing p i (w ∷ ws) l = targets_storing p (i + 1) ws l

targets_adding : (xs : List PageTarget) (l : List Act) → targets (adding xs l) ≡ map bare xs ++ targets l
unfolding targets
targets_adding [] l = refl
targets_adding (x ∷ xs) l = ap (λ (u : List Target). bare x ∷ u) (targets_adding xs l)

targets_page : (h p at : ℕ) (hs : List Hunk) → targets (page_acts h p at hs) ≡ map bare (hunks_at h p at hs)
unfolding targets
targets_page h p at [] = refl
targets_page h p at (x ∷ xs) =
    let to : ℕ = at + 4 * length (hunk_words x) in
    let q : List Act = page_acts (h + 1) (p + 4 * x.space.size) to xs in
    targets_storing p 0 (stored_words x.body) (adding (hunk_at h p at x) q)
    ∙ targets_adding (hunk_at h p at x) q
    ∙ ap (λ (u : List Target). map bare (hunk_at h p at x) ++ u) (targets_page (h + 1) (p + 4 * x.space.size) to xs)
    ∙ sym (map-append bare (hunk_at h p at x) (hunks_at (h + 1) (p + 4 * x.space.size) to xs))

-- ---- of a file

module _ (file : List ℕ) (hs : List Hunk) (pr : Program hs) (whole : length file % 4 ≡ 0)
    (e : words_at file 0 (length file / 4) ≡ written hs) where
  -- the bytes that the hunks take
  pub page_loaded : loaded_of file ≡ 4 * total hs
  unfolding place_of
  page_loaded = omega (arith, place_total (total_of file) (space_of file) hs 0 (all_spaces file hs pr whole e))

  records_room : (bases : List ℕ) (n : ℕ) → record_length * length hs ≤ n
      → take (record_length * total_of file) (with_records file bases (replicate n 0) (acts_of file))
      ≡ record_numbers 0 0 hs bases
  records_room bases n l =
      let k : ℕ = record_length * length hs in
      let z : n ≡ k + (n - k) = omega arith in
      let u : replicate {A = ℕ} n 0 ≡ replicate k 0 ++ replicate (n - k) 0 =
      ap (λ (j : ℕ). replicate {A = ℕ} j 0) z ∙ sym (replicate-append-replicate {A = ℕ} k (n - k) 0) in
      let q : length (record_numbers 0 0 hs bases) ≡ record_length * total_of file =
      omega (arith, length_numbers 0 0 hs bases, is_total file hs pr whole e) in
      ap (take (record_length * total_of file))
      (pass_plain (record_one file bases) (λ t. refl) (replicate n 0) (acts_of file)
      ∙ ap (with_records file bases (replicate n 0)) (page_acts_lem file hs pr whole e)
      ∙ ap (λ (t : List ℕ). with_records file bases t (page_acts 0 0 (20 + 4 * length hs) hs)) u
      ∙ records_on file bases (total_of file) hs 0 0 _ [] (replicate (n - k) 0) (all_spaces file hs pr whole e) refl)
      ∙ take_at (record_numbers 0 0 hs bases) (replicate (n - k) 0) (record_length * total_of file) q

  -- the records
  pub page_records_lem : (bases : List ℕ) → records_of file bases ≡ record_numbers 0 0 hs bases
  unfolding records_of
  page_records_lem bases = records_room bases table_room (omega (arith, pr.most))

  -- memory with no amount added yet
  pub page_bodies : (m : List ℕ) → bodies_of file m ≡ image_of hs ++ drop (4 * total hs) m
  page_bodies m =
      rw page_loaded
      (pass_plain store_one (λ u. refl) _ (acts_of file)
      ∙ ap (with_stored (replicate (4 * total hs) 0 ++ drop (4 * total hs) m)) (page_acts_lem file hs pr whole e)
      ∙ bodies_on (total_of file) (space_of file) hs 0 0 _ [] (drop (4 * total hs) m) (all_spaces file hs pr whole e)
      refl)

  -- loaded memory
  pub page_load : (bases m : List ℕ)
      → load_of file bases m ≡ shift_all (image_of hs ++ drop (4 * total hs) m) (targets_of file) (amount_of bases)
  page_load bases m = ap (λ (u : List ℕ). shift_all u (targets_of file) (amount_of bases)) (page_bodies m)

  -- the targets: byte in memory, hunk, and byte in the file
  pub page_targets : targets_of file ≡ map bare (file_targets hs)
  page_targets =
      targets_plain (acts_of file) ∙ ap targets (page_acts_lem file hs pr whole e)
      ∙ targets_page 0 0 (20 + 4 * length hs) hs

  -- a load and a move, by the page alone
  page_relocated : (m : List ℕ) (f : ℕ → ℕ) → shift_all m (targets_of file) f ≡ relocated m (file_targets hs) f
  page_relocated m f = ap (λ (ts : List Target). shift_all m ts f) page_targets

  pub page_loads : (bases m : List ℕ)
      → load_of file bases m ≡ relocated (image_of hs ++ drop (4 * total hs) m) (file_targets hs) (amount_of bases)
  page_loads bases m = page_load bases m ∙ page_relocated (image_of hs ++ drop (4 * total hs) m) (amount_of bases)

  pub page_moves : (old new m : List ℕ) → move_of file old new m ≡ relocated m (file_targets hs) (moved old new)
  page_moves old new m = page_relocated m (moved old new)

-- A program file is what the page says: the check accepts the files whose words are hunks within the limits, written
-- out, and no others. Assumes nothing.
use Prim.Native.Nat.{ℕ, zero, suc, ◌+◌, ◌*◌, ◌-◌, ◌/◌, ◌%◌, ◌<◌, ◌≤◌}
use mathlib.Core.Path.{◌≡◌, refl, sym, ap, subst, ◌∙◌}
use mathlib.Core.Logic.{◌⊎◌, inl, inr, ◌↔◌}
use mathlib.Core.List.{List, [], ◌∷◌}
use mathlib.Core.Bool.{Bool, true, false}
use native.Mathlib.Omega.{arith}
use lib.ListN.{length, length-map, get_or}
use borrow.Author.Tests.{eq-eqb, ne_eqb, eqb-true}
use Rattle.std.specs.Prelude.{Result, Ok, Err}
use Rattle.program.specs.Types as type
use Rattle.words.specs.Word.{word_at, words_at}
use Rattle.answers.specs.Tests.{pick}
use Rattle.answers.specs.declared.Refusal.{Refusal}
use Rattle.program.specs.declared.reader.Cursor.{Cursor}
use Rattle.program.specs.Page.{Hunk, joined, hunk_words, space_words, head_words, written, Each, HunkFits}
use Rattle.program.specs.Page.{Program, Holds, total}
use Rattle.program.specs.Spaces.{Space, space_word, space_in, SpaceFits}
use Rattle.program.specs.Header.{total_of, space_of, start_at, head_fault, heads}
use Rattle.program.specs.Check.{Answer, accepted, walk_of, and, check_of}
use Rattle.program.specs.Cursors.{HeaderFits}
use Rattle.program.specs.Verdicts.{OfSpaces, AllHunks}
use Rattle.program.proofs.Answers.{not_accepted}
use Rattle.program.proofs.Spaces.{word_back, space_back}
use Rattle.program.proofs.Taken.{AllSpaces, hunks_on}
use Rattle.program.proofs.Beginnings.{unended}
use Rattle.program.proofs.Standing.{cons, Within, Past, comes_stands}
use Rattle.program.proofs.Stops.{Ends, ended, Stops, walk_stops}
use Rattle.program.proofs.Heads.{header_fits}
use Rattle.program.proofs.Heading.{words_add, Split, split, heads_pass, fault_0, fault_1, fault_2, fault_3}
use Rattle.program.proofs.Heading.{fault_4, fault_space, is_0, is_1, is_3, is_4, each_passes}

-- ---- spaces

spaces_of : (t : ℕ) (space : ℕ → Space) (hs : List Hunk) (h : ℕ) → Each (HunkFits t) hs → h + length hs ≡ t
    → ((i : ℕ) → i < length hs → space (h + i) ≡ space_in (get_or (space_words hs) i 0)) → AllSpaces t space h hs
spaces_of t space [] h f e g = omega arith
spaces_of t space (x ∷ xs) h f e g =
    let a : h + 0 ≡ h = omega arith in
    let b : space h ≡ space_in (space_word x.space) = rw a at (g 0 (omega arith)) in (
      sym (b ∙ space_back x.space f.0.space),
      f.0,
      spaces_of t space xs (h + 1) f.1 (omega arith)
          (λ i l. let d : h + suc i ≡ h + 1 + i = omega arith in rw d at (g (suc i) (omega arith))),
    )

words_fit : (t : ℕ) (hs : List Hunk) (i : ℕ) → Each (HunkFits t) hs → i < length hs
    → SpaceFits (space_in (get_or (space_words hs) i 0))
words_fit t [] i f l = absurd (omega arith)
words_fit t (x ∷ xs) zero f l = subst SpaceFits (sym (space_back x.space f.0.space)) f.0.space
words_fit t (x ∷ xs) (suc i) f l = words_fit t xs i f.1 (omega arith)

spaces_fit : (t : ℕ) (space : ℕ → Space) (hs : List Hunk) (h : ℕ) → OfSpaces t space h hs → Each (HunkFits t) hs
spaces_fit t space [] h f = tt
spaces_fit t space (x ∷ xs) h f = (f.1, spaces_fit t space xs (h + 1) f.2)

spaces_words : (t : ℕ) (file : List ℕ) (hs : List Hunk) (h : ℕ) → OfSpaces t (space_of file) h hs
    → words_at file (20 + 4 * h) (length hs) ≡ space_words hs
unfolding words_at space_of
spaces_words t file [] h f = refl
spaces_words t file (x ∷ xs) h f =
    let a : 20 + 4 * h + 4 ≡ 20 + 4 * (h + 1) = omega arith in
    cons (sym (ap space_word f.0 ∙ word_back _)) (rw a (spaces_words t file xs (h + 1) f.2))

-- ---- what is written is accepted

module _ (file : List ℕ) (hs : List Hunk) (p : Program hs) (whole : length file % 4 ≡ 0)
    (e : words_at file 0 (length file / 4) ≡ written hs) where
  cut : Split file (head_words hs) (joined hunk_words hs) 0 (length file / 4)
  cut = split file (head_words hs) (joined hunk_words hs) 0 (length file / 4) e

  head_length : length (head_words hs) ≡ 5 + length hs
  head_length = omega (arith, length-map hs (λ h. space_word h.space))

  pub is_total : total_of file ≡ length hs
  is_total = cut.first 2 (omega (arith, head_length))

  is_long : 20 + 4 * length hs ≤ length file
  is_long = omega (arith, cut.long, head_length)

  is_space : (i : ℕ) → i < length hs → space_of file i ≡ space_in (get_or (space_words hs) i 0)
  unfolding space_of
  is_space i l =
      let a : 20 + 4 * i ≡ 0 + 4 * suc (suc (suc (suc (suc i)))) = omega arith in
      ap space_in (rw a (cut.first (suc (suc (suc (suc (suc i))))) (omega (arith, head_length))))

  pub all_spaces : AllSpaces (total_of file) (space_of file) 0 hs
  all_spaces =
      spaces_of (total_of file) (space_of file) hs 0 (rw is_total p.hunks) (omega (arith, is_total))
      (λ i l. let a : 0 + i ≡ i = omega arith in rw a (is_space i l))

  heads_first : heads file 0 5 ≡ Ok tt
  heads_first = heads_pass file 5 0 (omega (arith, is_long)) go
    where
      go : (j : ℕ) → 0 ≤ j → j < 5 → head_fault (total_of file) j (word_at file (4 * j)) ≡ 0
      go zero a b = fault_0 (total_of file) _ (cut.first 0 (omega (arith, head_length)))
      go (suc zero) a b = fault_1 (total_of file) _ (cut.first 1 (omega (arith, head_length)))
      go (suc (suc zero)) a b =
          fault_2 (total_of file) (total_of file) (omega (arith, is_total, p.least)) (omega (arith, is_total, p.most))
      go (suc (suc (suc zero))) a b = fault_3 (total_of file) _ (cut.first 3 (omega (arith, head_length)))
      go (suc (suc (suc (suc zero)))) a b =
          let l = cut.first 4 (omega (arith, head_length)) in
          fault_4 (total_of file) (word_at file 16) (omega (arith, is_total, p.least, l))
      go (suc (suc (suc (suc (suc j))))) a b = absurd (omega arith)

  heads_second : heads file 5 (total_of file) ≡ Ok tt
  unfolding space_of
  heads_second =
      heads_pass file (total_of file) 5 (omega (arith, is_long, is_total))
      (λ j a b. go j (j - 5) (omega arith) (omega (arith, is_total)))
    where
      go : (j i : ℕ) → j ≡ 5 + i → i < length hs → head_fault (total_of file) j (word_at file (4 * j)) ≡ 0
      go j i d l =
          let a : 4 * (5 + i) ≡ 20 + 4 * i = omega arith in
          rw (d, a) (fault_space (total_of file) (word_at file (20 + 4 * i)) i
          (rw (is_space i l) (words_fit (length hs) hs i p.hunks l)))

  pub rest_words : words_at file (start_at file) ((length file - start_at file) / 4) ≡ joined hunk_words hs
  rest_words =
      let a : start_at file ≡ 0 + 4 * length (head_words hs) = omega (arith, is_total, head_length) in
      let b : (length file - start_at file) / 4 ≡ length file / 4 - length (head_words hs) =
      omega (arith, is_total, head_length) in
      rw (b, a) cut.others

  walk_taken : walk_of file ≡ accepted (total_of file) (4 * total hs)
  unfolding pick
  walk_taken =
      let l : 0 ≡ total_of file → ⊥ = λ z. omega (arith, is_total, p.least) in
      let g = hunks_on (total_of file) (space_of file) (length file) (4 * total hs) hs 0 0 all_spaces (omega arith) in
      rw rest_words (rw (ne_eqb 0 (total_of file) l) at (g (start_at file)))

  is_accepted : check_of file ≡ accepted (length hs) (4 * total hs)
  unfolding check_of pick
  is_accepted =
      rw (ne_eqb (length file) 0 (omega (arith, is_long)), eq-eqb (length file % 4) 0 whole, heads_first, heads_second)
      (walk_taken ∙ ap (λ (k : ℕ). accepted k (4 * total hs)) is_total)

pub page_accepted : (file : List ℕ) (hs : List Hunk) → Holds file hs
    → check_of file ≡ accepted (length hs) (4 * total hs)
page_accepted file hs h = is_accepted file hs h.fits h.whole h.words

-- ---- what is accepted is written

pick_no : (b : Bool) (r : Refusal) (a : Answer) (t n : ℕ) → pick b (Err r) a ≡ accepted t n
    → (b ≡ false) × (a ≡ accepted t n)
unfolding pick
pick_no true r a t n e = not_accepted e
pick_no false r a t n e = (refl, e)

pick_yes : (b : Bool) (r : Refusal) (a : Answer) (t n : ℕ) → pick b a (Err r) ≡ accepted t n
    → (b ≡ true) × (a ≡ accepted t n)
unfolding pick
pick_yes true r a t n e = (refl, e)
pick_yes false r a t n e = not_accepted e

and_both : (r : Result Unit Refusal) (a : Answer) (t n : ℕ) → and r a ≡ accepted t n → (r ≡ Ok tt) × (a ≡ accepted t n)
and_both (Ok u) a t n e = (refl, e)
and_both (Err r) a t n e = not_accepted e

-- what the check has found
record Read (file : List ℕ) (t n : ℕ) : Type 0 where
  whole : length file % 4 ≡ 0
  five : heads file 0 5 ≡ Ok tt
  sized : heads file 5 (total_of file) ≡ Ok tt
  hunks : walk_of file ≡ accepted t n

accepted_read : (file : List ℕ) (t n : ℕ) → check_of file ≡ accepted t n → Read file t n
unfolding check_of
accepted_read file t n e =
    let a = pick_no _ _ _ t n e in
    let b = pick_yes _ _ _ t n a.1 in
    let c = and_both _ _ t n b.1 in
    let d = and_both _ _ t n c.1 in
    record { whole = eqb-true (length file % 4) 0 b.0; five = c.0; sized = d.0; hunks = d.1 }

module _ (file : List ℕ) (t n : ℕ) (r : Read file t n) where
  word_0 : word_at file 0 ≡ type.header
  word_0 = is_0 (total_of file) (word_at file 0) (each_passes file 5 0 r.five 0 (omega arith) (omega arith)).1

  word_1 : word_at file 4 ≡ 0
  word_1 = is_1 (total_of file) (word_at file 4) (each_passes file 5 0 r.five 1 (omega arith) (omega arith)).1

  word_3 : word_at file 12 ≡ 0
  word_3 = is_3 (total_of file) (word_at file 12) (each_passes file 5 0 r.five 3 (omega arith) (omega arith)).1

  word_4 : word_at file 16 + 1 ≡ total_of file
  word_4 = is_4 (total_of file) (word_at file 16) (each_passes file 5 0 r.five 4 (omega arith) (omega arith)).1

  headed : HeaderFits file
  headed = header_fits file r.five r.sized

  -- the walk stops at the end, after all hunks
  past : (hs : List Hunk) × AllHunks file hs (length file)
  past = stop (walk_stops file r.whole headed)
    where
      stop : Stops file (walk_of file) → (hs : List Hunk) × AllHunks file hs (length file)
      stop (inr k) = not_accepted (sym k.2 ∙ r.hunks)
      stop (inl k) =
          over (ended (length file) k.0 k.0.mode)
          (comes_stands file r.whole headed k.0 (length file) k.1)
        where
          over : Ends (length file) k.0 k.0.mode
              → Within file k.0 (length file) ⊎ Past file k.0 (length file)
              → (hs : List Hunk) × AllHunks file hs (length file)
          over (inr x) y = not_accepted (sym x.1 ∙ sym k.2 ∙ r.hunks)
          over (inl x) (inl y) = absurd (unended y.begun (ap (λ (c : Cursor). c.mode) y.is ∙ x.0))
          over (inl x) (inr y) = (y.hunks, y.whole)

  module _ (hs : List Hunk) (z : AllHunks file hs (length file)) where
    all_written : words_at file 0 (length file / 4) ≡ written hs
    unfolding words_at
    all_written =
        let k : ℕ = length (joined hunk_words hs) in
        let q : length file / 4 ≡ suc (suc (suc (suc (suc (length hs + k))))) =
        omega (arith, z.all, z.stand.reaches) in
        let s : 20 + 4 * length hs ≡ start_at file = omega (arith, z.all) in
        ap (words_at file 0) q
        ∙ cons word_0 (cons word_1 (cons (sym z.all) (cons word_3 (cons (omega (arith, word_4, z.all))
        (words_add file (length hs) 20 k
        ∙ rw (s, z.stand.words, spaces_words (total_of file) file hs 0 z.hunks))))))

    is_program : Program hs
    is_program =
        record {
          least = omega (arith, z.all, headed.some);
          most = omega (arith, z.all, headed.few);
          hunks = rw z.all (spaces_fit (total_of file) (space_of file) hs 0 z.hunks);
        }

  read : (hs : List Hunk) × Holds file hs
  read = (
    past.0,
    record {
      fits = is_program past.0 past.1;
      whole = r.whole;
      words = all_written past.0 past.1;
    },
  )

pub accepted_page : (file : List ℕ) (t n : ℕ) → check_of file ≡ accepted t n → (hs : List Hunk) × Holds file hs
accepted_page file t n e = read file t n (accepted_read file t n e)

pub page : (file : List ℕ) → ((t : ℕ) × (n : ℕ) × (check_of file ≡ accepted t n)) ↔ ((hs : List Hunk) × Holds file hs)
page file = (
  λ a. accepted_page file a.0 a.1 a.2,
  λ b. (length b.0, 4 * total b.0, page_accepted file b.0 b.1),
)

-- The walk over a file's words, one at a time, and the whole check. Assumes nothing.
use Prim.Native.Nat.{ℕ, suc, ◌+◌, ◌*◌, ◌-◌, ◌/◌, ◌%◌, ◌<◌, ◌≤◌}
use mathlib.Core.Path.{◌≡◌, sym, ap, ◌∙◌}
use mathlib.Core.List.{List, [], ◌∷◌}
use native.Mathlib.Omega.{arith}
use lib.ListN.{length}
use borrow.Author.Tests.{eq-eqb, ne_eqb}
use Rattle.answers.specs.Numbers as fault
use Rattle.words.specs.Word.{word_at, words_at}
use Rattle.answers.specs.Tests.{pick}
use Rattle.answers.specs.declared.Refusal.{Refusal}
use Rattle.answers.specs.declared.Fault.{Fault}
use Rattle.answers.specs.Refusals.{refused_at}
use Rattle.std.specs.Prelude.{Result, Ok, Err}
use Rattle.program.specs.declared.reader.Cursor.{Cursor}
use Rattle.program.specs.Header.{total_of, space_of, heads}
use Rattle.program.specs.Reader.{numbered, Next, start, step_of}
use Rattle.program.specs.Check.{Answer, refuse, ended_of, walk, words_from, rest_of, walk_of, check_of}
use Rattle.program.specs.Cursors.{HeaderFits}
use Rattle.program.specs.Runs.{Reads}
use Rattle.program.proofs.CursorsFit.{start_fits, step_fits}

-- ---- the words that are left

one_left : (n at : ℕ) → n % 4 ≡ 0 → at % 4 ≡ 0 → at < n → (n - at) / 4 ≡ suc ((n - (at + 4)) / 4)
one_left n at h k l = omega arith

module _ (file : List ℕ) (at : ℕ) where
  pub words_next : length file % 4 ≡ 0 → at % 4 ≡ 0 → at < length file
      → words_from file at ≡ word_at file at ∷ words_from file (at + 4)
  unfolding words_at
  words_next h k l = rw (one_left (length file) at h k l)

  pub words_over : length file ≤ at → words_from file at ≡ []
  unfolding words_at
  words_over h = let z : (length file - at) / 4 ≡ 0 = omega arith in rw z

  -- ---- a word of the walk

  module _ (c : Cursor) where
    module _ (w : ℕ) (r : Next) (h : length file % 4 ≡ 0) (k : at % 4 ≡ 0) (l : at < length file)
        (p : w ≡ word_at file at) (q : r ≡ step_of (total_of file) (space_of file) c w) where
      pub walk_on : (d : Cursor) → r ≡ Ok d → rest_of file at c ≡ rest_of file (at + 4) d
      unfolding walk
      walk_on d e = rw (words_next h k l, ← p, ← q, e)

      pub walk_bad : (v : ℕ) → r ≡ Err v → rest_of file at c ≡ refuse v at
      unfolding walk
      walk_bad v e = rw (words_next h k l, ← p, ← q, e)

    pub walk_end : length file ≤ at → rest_of file at c ≡ ended_of (length file) c c.mode
    unfolding walk
    walk_end h = rw (words_over h)

-- ---- the loop over the hunks

pub reads_start : (file : List ℕ) (c : Cursor) (at t : ℕ) → HeaderFits file → length file % 4 ≡ 0 → c ≡ start
    → t ≡ total_of file → at ≡ 20 + 4 * t → Reads file c at
reads_start file c at t s v e g h =
    record {
      fits = rw e (start_fits file s);
      whole = v;
      within = omega (arith, s.long);
      aligned = omega arith;
      rest = rw (e, h, g);
    }

pub reads_on : (file : List ℕ) (c : Cursor) (at w : ℕ) (r : Next) (d : Cursor) → Reads file c at → at < length file
    → w ≡ word_at file at → r ≡ step_of (total_of file) (space_of file) c w → r ≡ Ok d → Reads file d (at + 4)
reads_on file c at w r d i l p q e =
    record {
      fits = step_fits file c w d i.fits (sym q ∙ e);
      whole = i.whole;
      within = omega (arith, i.whole, i.aligned);
      aligned = omega (arith, i.aligned);
      rest = i.rest ∙ walk_on file at c w r i.whole i.aligned l p q d e;
    }

-- ---- its returns

module _ (file : List ℕ) (c : Cursor) (at : ℕ) (i : Reads file c at) (a : Answer) where
  pub reads_bad : (w : ℕ) (r : Result Cursor Fault) {f : Fault} → at < length file → w ≡ word_at file at
      → numbered r ≡ step_of (total_of file) (space_of file) c w → r ≡ Err f → a ≡ Err (refused_at f at)
      → a ≡ walk_of file
  reads_bad w r l p q e k =
      k ∙ sym (i.rest ∙ walk_bad file at c w (numbered r) i.whole i.aligned l p q _ (ap numbered e))

  pub reads_end : length file ≤ at → a ≡ ended_of (length file) c c.mode → a ≡ walk_of file
  reads_end h k = k ∙ sym (i.rest ∙ walk_end file at c h)

-- ---- the whole check

module _ (file : List ℕ) where
  pub check_empty : (r : Answer) → length file ≡ 0 → r ≡ refuse fault.file_length 0 → r ≡ check_of file
  unfolding check_of pick
  check_empty r h e = rw (eq-eqb _ _ h) e

  module _ (some : length file ≡ 0 → ⊥) where
    pub check_odd : (r : Answer) → (length file % 4 ≡ 0 → ⊥) → r ≡ refuse fault.file_length 0 → r ≡ check_of file
    unfolding check_of pick
    check_odd r h e = rw (ne_eqb _ _ some, ne_eqb _ _ h) e

    module _ (whole : length file % 4 ≡ 0) (a : Result Unit Refusal) (ea : a ≡ heads file 0 5) where
      pub check_first : (f : Refusal) → a ≡ Err f → Err f ≡ check_of file
      unfolding check_of pick
      check_first f h = rw (ne_eqb _ _ some, eq-eqb _ _ whole, ← ea, h)

      module _ (fa : a ≡ Ok tt) (t : ℕ) (et : t ≡ total_of file) (b : Result Unit Refusal)
          (eb : b ≡ heads file 5 t) where
        pub check_second : (f : Refusal) → b ≡ Err f → Err f ≡ check_of file
        unfolding check_of pick
        check_second f h = rw (ne_eqb _ _ some, eq-eqb _ _ whole, ← ea, fa, ← et, ← eb, h)

        pub check_hunks : b ≡ Ok tt → (r : Answer) → r ≡ walk_of file → r ≡ check_of file
        unfolding check_of pick
        check_hunks h r e =
            e ∙ rw (ne_eqb _ _ some, eq-eqb _ _ whole, ← ea, fa, ap (heads file 5) (sym et) ∙ sym eb ∙ h)

-- The acts of a file, and a pass over them, go with the reader, a word at a time. Assumes nothing.
use Prim.Native.Nat.{ℕ, ◌+◌, ◌*◌, ◌%◌, ◌<◌, ◌≤◌}
use mathlib.Core.Path.{◌≡◌, refl, sym, ap, ◌∙◌}
use mathlib.Core.List.{List, [], ◌∷◌}
use native.Mathlib.Omega.{arith}
use lib.ListN.{length}
use Rattle.std.specs.Prelude.{Ok, Err}
use Rattle.words.specs.Word.{word_at}
use Rattle.program.specs.Runs.{Reads}
use Rattle.program.specs.declared.act.Act.{Act}
use Rattle.program.specs.declared.reader.Cursor.{Cursor}
use Rattle.program.specs.Header.{total_of, space_of}
use Rattle.program.specs.Reader.{Next, start, step_of}
use Rattle.program.specs.Acts.{act_of, acts, acts_from, acts_of, pass}
use Rattle.program.specs.Cursors.{HeaderFits, CursorFits}
use Rattle.program.proofs.Walks.{words_next, words_over, reads_start, reads_on}

-- ---- the acts from a word on

module _ (file : List ℕ) (at : ℕ) (c : Cursor) where
  module _ (w : ℕ) (r : Next) (i : Reads file c at) (l : at < length file) (p : w ≡ word_at file at)
      (q : r ≡ step_of (total_of file) (space_of file) c w) where
    pub acts_on : (d : Cursor) (a : Act) → r ≡ Ok d → a ≡ act_of c at w
        → acts_from file at c ≡ a ∷ acts_from file (at + 4) d
    unfolding acts
    acts_on d a e x = rw (words_next file at i.whole i.aligned l, ← p, ← q, e, ← x)

    pub acts_bad : (v : ℕ) → r ≡ Err v → acts_from file at c ≡ []
    unfolding acts
    acts_bad v e = rw (words_next file at i.whole i.aligned l, ← p, ← q, e)

  pub acts_end : length file ≤ at → acts_from file at c ≡ []
  unfolding acts
  acts_end h = rw (words_over file at h)

-- ---- the loop of a pass over lists

-- x₀ is at first, x is now, and the acts that are left make the same of both; the length stays

pub record Passing (g : List ℕ → Act → List ℕ) (file x₀ x : List ℕ) (c : Cursor) (at : ℕ) : Type 0 where
  pub reads : Reads file c at
  pub left : pass g x₀ (acts_of file) ≡ pass g x (acts_from file at c)
  pub long : length x ≡ length x₀

module _ (g : List ℕ → Act → List ℕ) (file x₀ : List ℕ) where
  pub passing_start : (c : Cursor) (at t : ℕ) → HeaderFits file → length file % 4 ≡ 0 → c ≡ start → t ≡ total_of file
      → at ≡ 20 + 4 * t → Passing g file x₀ x₀ c at
  passing_start c at t s v e k h =
      record { reads = reads_start file c at t s v e k h; left = rw (e, h, k); long = refl }

  module _ (x : List ℕ) (c : Cursor) (at : ℕ) (i : Passing g file x₀ x c at) where
    pub passing_room : (n : ℕ) → n ≤ length x₀ → n ≤ length x
    passing_room n h = omega (arith, i.long)

    module _ (w : ℕ) (r : Next) (l : at < length file) (p : w ≡ word_at file at)
        (q : r ≡ step_of (total_of file) (space_of file) c w) where
      pub passing_fits : (d : Cursor) → r ≡ Ok d → CursorFits file d
      passing_fits d e = (reads_on file c at w r d i.reads l p q e).fits

      pub passing_on : (d : Cursor) (a : Act) (y : List ℕ) → r ≡ Ok d → a ≡ act_of c at w → y ≡ g x a
          → ((z : List ℕ) (b : Act) → length (g z b) ≡ length z) → Passing g file x₀ y d (at + 4)
      unfolding pass
      passing_on d a y e z k long =
          record {
            reads = reads_on file c at w r d i.reads l p q e;
            left =
                i.left ∙ ap (pass g x) (acts_on file at c w r i.reads l p q d a e z)
                ∙ ap (λ u. pass g u (acts_from file (at + 4) d)) (sym k);
            long = ap length k ∙ long x a ∙ i.long;
          }

      pub passing_bad : (v : ℕ) → r ≡ Err v → x ≡ pass g x₀ (acts_of file)
      unfolding pass
      passing_bad v e = sym (i.left ∙ ap (pass g x) (acts_bad file at c w r i.reads l p q v e))

    pub passing_end : length file ≤ at → x ≡ pass g x₀ (acts_of file)
    unfolding pass
    passing_end h = sym (i.left ∙ ap (pass g x) (acts_end file at c h))

-- Where the walk over the hunks stops: at the first word that the reader does not take, or at the end of the file.
-- Assumes nothing.
use Prim.Native.Nat.{ℕ, zero, suc, ◌+◌, ◌*◌, ◌-◌, ◌/◌, ◌%◌, ◌<◌}
use mathlib.Core.Path.{◌≡◌, refl, subst}
use mathlib.Core.Logic.{◌≢◌, ◌⊎◌, inl, inr}
use mathlib.Core.List.{List}
use native.Mathlib.Omega.{arith}
use lib.ListN.{length}
use Rattle.std.specs.Prelude.{Ok, Err}
use Rattle.answers.specs.Numbers as fault
use Rattle.words.specs.Word.{word_at}
use Rattle.answers.specs.Refusals.{refusal}
use Rattle.answers.specs.declared.Refusal.{Refusal}
use Rattle.answers.proofs.Clashes.{impossible}
use Rattle.program.specs.Runs.{Reads}
use Rattle.program.specs.declared.reader.Cursor.{Cursor}
use Rattle.program.specs.declared.reader.Mode.{Mode}
use Rattle.program.specs.declared.reader.Mode.TheVariants.{Begin, NameLength, Body, Length, Stored, Part}
use Rattle.program.specs.declared.reader.Mode.TheVariants.{Count, Number, Offset, Symbol, DebugLength, Skip}
use Rattle.program.specs.declared.reader.Mode.TheVariants.{End}
use Rattle.program.specs.Header.{total_of, space_of, start_at}
use Rattle.program.specs.Reader.{Next, start, step_of}
use Rattle.program.specs.Check.{Answer, accepted, refuse, ended_of, rest_of, walk_of}
use Rattle.program.specs.Cursors.{HeaderFits}
use Rattle.program.proofs.Coming.{Comes, begins, takes, HunkWord}
use Rattle.program.proofs.Walks.{reads_start, reads_on, walk_on, walk_bad, walk_end}

-- ---- at the end of the file: the last hunk has ended, or a word is missing

abbrev pub Ends : ℕ → Cursor → Mode → Type 0
Ends end c m =
    ((m ≡ End) × (ended_of end c m ≡ accepted c.hunk c.place))
    ⊎ ((m ≢ End) × (ended_of end c m ≡ refuse fault.early_end end))

pub ended : (end : ℕ) (c : Cursor) (m : Mode) → Ends end c m
ended end c End = inl (refl, refl)
ended end c Begin = inr ((λ q. impossible cc), refl)
ended end c NameLength = inr ((λ q. impossible cc), refl)
ended end c Body = inr ((λ q. impossible cc), refl)
ended end c (Length k) = inr ((λ q. impossible cc), refl)
ended end c (Stored i) = inr ((λ q. impossible cc), refl)
ended end c Part = inr ((λ q. impossible cc), refl)
ended end c Count = inr ((λ q. impossible cc), refl)
ended end c (Number n) = inr ((λ q. impossible cc), refl)
ended end c (Offset n k) = inr ((λ q. impossible cc), refl)
ended end c Symbol = inr ((λ q. impossible cc), refl)
ended end c DebugLength = inr ((λ q. impossible cc), refl)
ended end c (Skip n a) = inr ((λ q. impossible cc), refl)

-- ---- the walk

-- with the answer a: at the end, or before it
abbrev pub Stops : List ℕ → Answer → Type 0
Stops file a =
    ((c : Cursor) × Comes file c (length file) × (a ≡ ended_of (length file) c c.mode))
    ⊎ ((f : Refusal) × HunkWord file f × (a ≡ Err f))

module _ (file : List ℕ) (whole : length file % 4 ≡ 0) where
  -- n words are left
  stops : (n at : ℕ) (c : Cursor) → length file ≡ at + 4 * n → Comes file c at → Stops file (rest_of file at c)
  stops zero at c l r =
      let q : at ≡ length file = omega arith in
      inl (c, subst (Comes file c) q r, walk_end file at c (omega arith))
  stops (suc n) at c l r = go (step_of (total_of file) (space_of file) c (word_at file at)) refl (stops n (at + 4))
    where
      h : at < length file
      h = omega arith

      k : at % 4 ≡ 0
      k = omega arith

      go : (x : Next) → step_of (total_of file) (space_of file) c (word_at file at) ≡ x
          → ((d : Cursor) → length file ≡ at + 4 + 4 * n → Comes file d (at + 4)
          → Stops file (rest_of file (at + 4) d))
          → Stops file (rest_of file at c)
      go (Ok d) q more =
          rw (walk_on file at c (word_at file at) _ whole k h refl refl d q) (more d (omega arith) (takes r h q))
      go (Err v) q more =
          inr (
            refusal v at,
            record {
              cursor = c;
              at = at;
              comes = r;
              there = h;
              number = v;
              refuses = q;
              said = refl;
            },
            walk_bad file at c (word_at file at) _ whole k h refl refl v q,
          )

  pub walk_stops : HeaderFits file → Stops file (walk_of file)
  walk_stops s = stops ((length file - start_at file) / 4) (start_at file) start (omega (arith, s.long, whole)) begins

  -- where the reader comes to, the rest of the file gives the file's answer
  pub comes_reads : HeaderFits file → {c : Cursor} {at : ℕ} → Comes file c at → Reads file c at
  comes_reads s begins = reads_start file start (start_at file) (total_of file) s whole refl refl refl
  comes_reads s (takes {c} {d} {at} r h q) = reads_on file c at (word_at file at) _ d (comes_reads s r) h refl refl q

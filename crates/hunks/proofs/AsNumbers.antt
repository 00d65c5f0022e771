-- The answer of a load and of a move as numbers: which numbers a refusal has, and that 0 is no refusal. Assumes
-- nothing.
use Prim.Native.Nat.{ℕ}
use mathlib.Core.Path.{◌≡◌, sym, ◌∙◌}
use mathlib.Core.List.{List}
use mathlib.Core.Logic.{◌↔◌}
use lib.ListN.{length}
use Rattle.std.specs.Prelude.{Err}
use Rattle.answers.specs.Members.{◌∈◌}
use Rattle.answers.specs.declared.Refusal.{Refusal}
use Rattle.program.specs.Check.{Answer, numbers_of}
use Rattle.loader.specs.Calls.{call_refusals}
use Rattle.loader.specs.Verdicts.{Accepts}
use Rattle.loader.proofs.Numbers.{load_number, move_number, load_zero, move_zero}
use Rattle.hunks.specs.declared.Hunk.{Hunk}
use Rattle.hunks.specs.Calls.{Loads, Moves}

module _ (file m : List ℕ) (t : List Hunk) (w : List ℕ) (r : Answer) (m1 : List ℕ) (t1 : List Hunk) (w1 : List ℕ) where
  -- a refusal's number is one of these
  pub load_listed : (bases : List ℕ) → Loads file bases m t w r m1 t1 w1 → (f : Refusal) → r ≡ Err f
      → (numbers_of r).number ∈ call_refusals
  load_listed bases l f e = rw e (load_number file (length m) (length t) (length w) f bases (sym l.answer ∙ e))

  pub move_listed : (old new : List ℕ) → Moves file old new m t w r m1 t1 w1 → (f : Refusal) → r ≡ Err f
      → (numbers_of r).number ∈ call_refusals
  move_listed old new l f e = rw e (move_number file (length m) (length t) (length w) f old new (sym l.answer ∙ e))

  -- the number is 0 if and only if the call is accepted
  pub load_zero_exactly : (bases : List ℕ) → Loads file bases m t w r m1 t1 w1 → ((numbers_of r).number ≡ 0) ↔ Accepts r
  load_zero_exactly bases l = load_zero file m (length t) w r bases l.answer

  pub move_zero_exactly : (old new : List ℕ) → Moves file old new m t w r m1 t1 w1
      → ((numbers_of r).number ≡ 0) ↔ Accepts r
  move_zero_exactly old new l = move_zero file m (length t) w r old new l.answer

-- The contracts decide: two outcomes for one input coincide, and a refused call changes nothing. (When a call is
-- accepted, and why it is refused: the loader's Deciding and Refusing, of the same answers.) Assumes nothing.
use Prim.Native.Nat.{ℕ}
use mathlib.Core.Path.{◌≡◌}
use mathlib.Core.List.{List}
use lib.ListN.{length, replicate}
use Rattle.std.specs.Prelude.{Err}
use Rattle.answers.specs.declared.Refusal.{Refusal}
use Rattle.program.specs.Check.{Answer, numbers_of}
use Rattle.loader.proofs.Deciding as numbers
use Rattle.hunks.specs.declared.Hunk.{Hunk}
use Rattle.hunks.specs.Records.{numbers_in}
use Rattle.hunks.specs.Calls.{Loads, Moves}
use Rattle.hunks.proofs.Numbering.{same_table, load_numbers, move_numbers}

-- ---- one input has one outcome

pub load_determined : (file bases m : List ℕ) (t : List Hunk) (w : List ℕ) (r r' : Answer) (m1 : List ℕ)
    (t1 : List Hunk) (w1 m2 : List ℕ) (t2 : List Hunk) (w2 : List ℕ)
    → Loads file bases m t w r m1 t1 w1 → Loads file bases m t w r' m2 t2 w2
    → (numbers_of r ≡ numbers_of r') × (m1 ≡ m2) × (t1 ≡ t2) × (w1 ≡ w2)
load_determined file bases m t w r r' m1 t1 w1 m2 t2 w2 a b =
    let q =
    numbers.load_determined file bases m (numbers_in t) w r r' m1 (numbers_in t1) w1 m2 (numbers_in t2) w2
    (load_numbers file bases m t w r m1 t1 w1 a) (load_numbers file bases m t w r' m2 t2 w2 b) in
    (q.0, q.1, same_table t1 t2 q.2, q.3)

pub move_determined : (file old new m : List ℕ) (t : List Hunk) (w : List ℕ) (r r' : Answer) (m1 : List ℕ)
    (t1 : List Hunk) (w1 m2 : List ℕ) (t2 : List Hunk) (w2 : List ℕ)
    → Moves file old new m t w r m1 t1 w1 → Moves file old new m t w r' m2 t2 w2
    → (numbers_of r ≡ numbers_of r') × (m1 ≡ m2) × (t1 ≡ t2) × (w1 ≡ w2)
move_determined file old new m t w r r' m1 t1 w1 m2 t2 w2 a b =
    let q =
    numbers.move_determined file old new m (numbers_in t) w r r' m1 (numbers_in t1) w1 m2 (numbers_in t2) w2
    (move_numbers file old new m t w r m1 t1 w1 a) (move_numbers file old new m t w r' m2 t2 w2 b) in
    (q.0, q.1, same_table t1 t2 q.2, q.3)

-- ---- a refused call changes no byte of memory and no record, and its work area comes back cleared

pub load_keeps : (file bases m : List ℕ) (t : List Hunk) (w : List ℕ) (f : Refusal) (m1 : List ℕ) (t1 : List Hunk)
    (w1 : List ℕ)
    → Loads file bases m t w (Err f) m1 t1 w1 → (m1 ≡ m) × (t1 ≡ t) × (w1 ≡ replicate (length w) 0)
load_keeps file bases m t w f m1 t1 w1 l = (l.loaded, l.recorded, l.clean)

pub move_keeps : (file old new m : List ℕ) (t : List Hunk) (w : List ℕ) (f : Refusal) (m1 : List ℕ) (t1 : List Hunk)
    (w1 : List ℕ)
    → Moves file old new m t w (Err f) m1 t1 w1 → (m1 ≡ m) × (t1 ≡ t) × (w1 ≡ replicate (length w) 0)
move_keeps file old new m t w f m1 t1 w1 l = (l.shifted, l.recorded, l.clean)

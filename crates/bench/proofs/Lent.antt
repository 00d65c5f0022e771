-- What a call accepts fits what it was lent.
use Prim.Native.Nat.{ℕ, ◌≤◌, ◌*◌}
use mathlib.Core.Path.{◌≡◌, sym, ◌∙◌}
use mathlib.Core.List.{List}
use native.Mathlib.Omega.{arith}
use lib.ListN.{length}
use Rattle.std.specs.Prelude.{Result, Ok}
use Rattle.answers.specs.declared.Refusal.{Refusal}
use Rattle.volume.specs.declared.disk.Disk.{Disk}
use Rattle.reading.specs.Reads.{Reads}
use Rattle.reading.proofs.Answers.{read_exactly}
use Rattle.program.specs.declared.check.Extent.{Extent}
use Rattle.program.specs.Check.{Answer}
use Rattle.loader.specs.Table.{record_length}
use Rattle.loader.specs.Calls.{records_in, Loads, Moves}
use Rattle.loader.proofs.Answering.{LoadFacts, load_facts, move_facts}

-- what is read fits the output
pub read_fits :
    (d : Disk) (s path : List ℕ) (o : ℕ) (out : List ℕ) (r : Result ℕ Refusal) (out1 : List ℕ) (n : ℕ) →
    Reads d s path o out r out1 → length out1 ≡ length out → r ≡ Ok n → n ≤ length out1
read_fits d s path o out r out1 n l k e =
    let g = (read_exactly d s path o (length out) n).0 (sym l.answer ∙ e) in
    omega (arith, g.count)

-- a loaded program fits memory, and its records the table
module _
    (file bases m table w : List ℕ) (r : Answer) (m1 t1 w1 : List ℕ) (x : Extent)
    (l : Loads file bases m table w r m1 t1 w1) where
  facts : r ≡ Ok x → LoadFacts file bases (length m) (records_in table) (length w) x.hunks x.bytes
  facts e = load_facts file bases (length m) (records_in table) (length w) x.hunks x.bytes r l.answer e

  pub load_fits : length m1 ≡ length m → r ≡ Ok x → x.bytes ≤ length m1
  load_fits k e = omega (arith, (facts e).fits, (facts e).file_accepted.bytes)

  pub load_records : length t1 ≡ length table → r ≡ Ok x → record_length * x.hunks ≤ length t1
  load_records k e = omega (arith, (facts e).records, (facts e).file_accepted.hunks)

-- and a moved one
module _
    (file old new m table w : List ℕ) (r : Answer) (m1 t1 w1 : List ℕ) (x : Extent)
    (l : Moves file old new m table w r m1 t1 w1) where
  moved_facts : r ≡ Ok x → LoadFacts file old (length m) (records_in table) (length w) x.hunks x.bytes
  moved_facts e = (move_facts file old new (length m) (records_in table) (length w) x.hunks x.bytes r l.answer e).load

  pub move_fits : length m1 ≡ length m → r ≡ Ok x → x.bytes ≤ length m1
  move_fits k e = omega (arith, (moved_facts e).fits, (moved_facts e).file_accepted.bytes)

  pub move_records : length t1 ≡ length table → r ≡ Ok x → record_length * x.hunks ≤ length t1
  move_records k e = omega (arith, (moved_facts e).records, (moved_facts e).file_accepted.hunks)

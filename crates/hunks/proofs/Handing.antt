-- What the core hands back fits the table, and a table that is filled from it is as the calls promise. Assumes nothing.
use Prim.Native.Nat.{ℕ, ◌*◌, ◌≤◌}
use mathlib.Core.Path.{◌≡◌, refl, sym, ap, ◌∙◌}
use mathlib.Core.List.{List, ◌++◌}
use native.Mathlib.Omega.{arith}
use lib.ListN.{length, drop}
use Rattle.std.specs.Prelude.{Ok, Err, Option, None, Some}
use Rattle.program.specs.Header.{total_of}
use Rattle.program.specs.declared.check.Extent.{Extent}
use Rattle.program.specs.Check.{Answer, accepted, numbers_of}
use Rattle.loader.specs.declared.calls.Outcome.{Outcome}
use Rattle.loader.specs.Table.{record_length, table_room, records_of}
use Rattle.loader.specs.Parts.{handed, Places, LoadsCore, MovesCore}
use Rattle.loader.proofs.Calling.{place_facts, handed_long}
use Rattle.hunks.specs.declared.Hunk.{Hunk}
use Rattle.hunks.specs.Records.{filled, hunks_of}
use Rattle.hunks.specs.Calls.{kept, Loads, Moves}
use Rattle.hunks.specs.Parts.{count_of, Fits}
use Rattle.hunks.proofs.Filling.{from_take, filled_zero}

-- an answer that does not accept has no records
pub none_counted : (a : Answer) → ((x : Extent) → a ≡ Ok x → ⊥) → count_of a ≡ 0
none_counted (Ok v) f = absurd (f v refl)
none_counted (Err r) f = refl

-- an accepted answer has as many records as the file has hunks, and they fit
fits_by : (a : Answer) (o : Outcome) (records : ℕ) → o.answer ≡ a → length o.records ≡ table_room
    → ((t n : ℕ) → a ≡ accepted t n → (t ≤ records) × (t ≤ 64)) → Fits o records
fits_by (Ok v) o records e l f =
    let q = f v.hunks v.bytes refl in record { fits = rw e q.0; most = rw e q.1; whole = l }
fits_by (Err r) o records e l f = record { fits = rw e (omega arith); most = rw e (omega arith); whole = l }

-- the first records are those of the file's hunks
filled_by_lem : (a : Answer) (file bases ns : List ℕ) (k : ℕ) (t : List Hunk) → k ≡ count_of a
    → ns ≡ handed file bases a
    → ((x n : ℕ) → a ≡ accepted x n → x ≡ total_of file) → filled ns k t ≡ kept a (hunks_of file bases t) t
unfolding records_of
filled_by_lem (Ok v) file bases ns k t e h f =
    let q : k ≡ total_of file = e ∙ f v.hunks v.bytes refl in
    rw (q, h) (ap (λ l. l ++ drop (total_of file) t)
    (sym (from_take _ (record_length * total_of file) 0 (total_of file) (omega arith))))
filled_by_lem (Err r) file bases ns k t e h f = rw e (filled_zero ns t)

module _ (file : List ℕ) (old : Option (List ℕ)) (to m : List ℕ) (t : List Hunk) (w : List ℕ) (o : Outcome)
    (m1 w1 : List ℕ) (p : Places file old to m w (length t) o m1 w1) where
  pub hands_fit : Fits o (length t)
  hands_fit =
      fits_by o.answer o (length t) refl (handed_long file to o.answer o.records p.numbers)
      (λ x n e. let f = place_facts file old to (length m) (length t) (length w) x n o.answer p.answer e in
      (f.4, omega (arith, f.0.hunks, f.0.header.few)))

  recorded_at : (t1 : List Hunk) → t1 ≡ filled o.records (count_of o.answer) t
      → t1 ≡ kept o.answer (hunks_of file to t) t
  recorded_at t1 e =
      e ∙ filled_by_lem o.answer file to o.records (count_of o.answer) t refl p.numbers
      (λ x n q. (place_facts file old to (length m) (length t) (length w) x n o.answer p.answer q).0.hunks)

module _ (file m : List ℕ) (t : List Hunk) (w : List ℕ) (o : Outcome) (m1 w1 : List ℕ) (t1 : List Hunk)
    (e : t1 ≡ filled o.records (count_of o.answer) t) where
  pub load_returns : (bases : List ℕ) → LoadsCore file bases m w (length t) o m1 w1
      → Loads file bases m t w o.answer m1 t1 w1
  load_returns bases p =
      record {
        answer = p.answer;
        numbers = ap numbers_of p.answer;
        loaded = p.placed;
        recorded = recorded_at file None bases m t w o m1 w1 p t1 e;
        clean = p.clean;
      }

  pub move_returns : (old new : List ℕ) → MovesCore file old new m w (length t) o m1 w1
      → Moves file old new m t w o.answer m1 t1 w1
  move_returns old new p =
      record {
        answer = p.answer;
        numbers = ap numbers_of p.answer;
        shifted = p.placed;
        recorded = recorded_at file (Some old) new m t w o m1 w1 p t1 e;
        clean = p.clean;
      }

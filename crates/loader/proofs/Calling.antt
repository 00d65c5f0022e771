-- The calls leave what they promise: laws for the returns of their code. Assumes nothing.
use Rattle.std.specs.Prelude.{Ok, Err, Option, None, Some}
use Rattle.std.proofs.Common.{◌≡◌, ℕ, ◌*◌, ◌<◌, ◌≤◌, List, ◌++◌, length, drop, replicate, sym, refl, ap, ◌∙◌}
use Rattle.std.proofs.Common.{arith}
use lib.ListN.{length-replicate}
use Rattle.words.specs.Shift.{shift_all}
use Rattle.words.proofs.Shifts.{shift_all_agree}
use Rattle.answers.specs.declared.Refusal.{Refusal}
use Rattle.program.specs.Header.{total_of}
use Rattle.program.specs.Acts.{acts_of}
use Rattle.program.specs.declared.check.Extent.{Extent}
use Rattle.program.specs.Check.{Answer, accepted, numbers_of}
use Rattle.loader.specs.declared.calls.Outcome.{Outcome}
use Rattle.loader.specs.Memory.{loaded_of, with_stored, targets_of, amount_of, moved, load_of, move_of}
use Rattle.loader.specs.Table.{record_length, table_room, with_records, records_of, table_of}
use Rattle.loader.specs.Calls.{effect, records_in, Loads, Moves}
use Rattle.loader.specs.Parts.{AcceptedFile, Roomy, Cleanly, Writes, handed, Places, LoadsCore, MovesCore, Fills}
use Rattle.loader.specs.Parts.{filled}
use Rattle.loader.specs.Parts.{answer_of, placed_of, SameLength}
use Rattle.loader.proofs.Answering.{load_facts, move_facts}
use Rattle.loader.proofs.Inside.{keyed_targets, length_with_records}

-- ---- an accepted program is written

module _ (file m numbers numbers' : List ℕ) where
  pub load_writes : (bases m1 m2 m3 : List ℕ) (n : ℕ) → n ≡ loaded_of file → m1 ≡ replicate n 0 ++ drop n m
      → m2 ≡ with_stored m1 (acts_of file) → m3 ≡ shift_all m2 (targets_of file) (amount_of bases)
      → numbers' ≡ with_records file bases numbers (acts_of file)
      → Writes (load_of file bases m) (with_records file bases numbers (acts_of file)) m3 numbers'
  load_writes bases m1 m2 m3 n e x y z l = record { memory = z ∙ rw (y, x, e); numbers = l }

  pub move_writes : (old new amounts m1 : List ℕ) (b : ℕ) → Roomy file (length new) b
      → ((i : ℕ) → i < length new → amount_of amounts i ≡ moved old new i)
      → m1 ≡ shift_all m (targets_of file) (amount_of amounts) → numbers' ≡ with_records file new numbers (acts_of file)
      → Writes (move_of file old new m) (with_records file new numbers (acts_of file)) m1 numbers'
  move_writes old new amounts m1 b y h z l =
      let g =
      shift_all_agree m (total_of file) (targets_of file) (amount_of amounts) (moved old new)
      (λ j q. h j (omega (arith, y.counted))) (keyed_targets file y.header)
      in
      record { memory = z ∙ g; numbers = l }

-- ---- the core

-- what an accepted call has
pub place_facts : (file : List ℕ) (old : Option (List ℕ)) (to : List ℕ) (m tb w t n : ℕ) (r : Answer)
    → r ≡ answer_of file old to m tb w → r ≡ accepted t n
    → AcceptedFile file t n × (length to ≡ total_of file) × SameLength old to × (n ≤ m) × (t ≤ tb)
place_facts file None to m tb w t n r e h =
    let f = load_facts file to m tb w t n r e h in (
      f.file_accepted,
      f.count,
      tt,
      omega (arith, f.fits, f.file_accepted.bytes),
      omega (arith, f.records, f.file_accepted.hunks),
    )
place_facts file (Some old) to m tb w t n r e h =
    let f = move_facts file old to m tb w t n r e h in
    let g = f.load in (
      g.file_accepted,
      f.count,
      g.count ∙ sym f.count,
      omega (arith, g.fits, g.file_accepted.bytes),
      omega (arith, g.records, g.file_accepted.hunks),
    )

module _ (file m w w' : List ℕ) (records : ℕ) (old : Option (List ℕ)) (to : List ℕ) (a : Answer)
    (v : Cleanly (answer_of file old to (length m) records (length w)) (length w) a w') where
  module _ (x : Extent) (h : a ≡ Ok x) where
    facts : AcceptedFile file x.hunks x.bytes × (length to ≡ total_of file) × SameLength old to × (x.bytes ≤ length m)
        × (x.hunks ≤ records)
    facts = place_facts file old to (length m) records (length w) x.hunks x.bytes a v.answer h

    pub place_asks : (k : ℕ) → k ≡ table_room
        → (x.bytes ≡ loaded_of file) × Roomy file (length to) (length m) × SameLength old to × (k ≡ table_room)
    place_asks k e = (
      facts.0.bytes,
      record {
        header = facts.0.header;
        whole = facts.0.whole;
        counted = sym facts.1;
        fits = omega (arith, facts.3, facts.0.bytes);
      },
      facts.2,
      e,
    )

    pub call_accepted : (m' numbers : List ℕ)
        → Writes (placed_of file old to m) (with_records file to (replicate table_room 0) (acts_of file)) m' numbers
        → Places file old to m w records (record { answer = a; records = numbers }) m' w'
    call_accepted m' numbers y =
        record {
          answer = v.answer;
          placed = y.memory ∙ rw h;
          numbers = y.numbers ∙ rw h;
          clean = v.clean;
        }

  pub call_refused : {f : Refusal} → a ≡ Err f
      → Places file old to m w records (record { answer = a; records = replicate table_room 0 }) m w'
  call_refused h = record { answer = v.answer; placed = rw h; numbers = rw h; clean = v.clean }

-- ---- the fronts

-- the records that are handed back have room for 64
pub handed_long : (file bases : List ℕ) (a : Answer) (l : List ℕ) → l ≡ handed file bases a → length l ≡ table_room
handed_long file bases (Ok v) l h =
    ap length h ∙ length_with_records file bases (replicate table_room 0) (acts_of file)
    ∙ length-replicate {A = ℕ} table_room 0
handed_long file bases (Err r) l h = ap length h ∙ length-replicate {A = ℕ} table_room 0

-- the records of an accepted outcome have room in the table
fills_by : (a : Answer) (file bases : List ℕ) (o : Outcome) (room : ℕ) → o.answer ≡ a
    → o.records ≡ handed file bases a → ((t n : ℕ) → a ≡ accepted t n → (t ≤ 64) × (record_length * t ≤ room))
    → Fills o room
fills_by (Ok v) file bases o room e h f =
    record { fills = rw e (f v.hunks v.bytes refl); whole = handed_long file bases (Ok v) o.records h }
fills_by (Err r) file bases o room e h f =
    record { fills = rw e tt; whole = handed_long file bases (Err r) o.records h }

filled_by_lem : (a : Answer) (file bases table : List ℕ) (o : Outcome) → o.answer ≡ a → o.records ≡ handed file bases a
    → ((t n : ℕ) → a ≡ accepted t n → t ≡ total_of file) → filled o table ≡ effect a (table_of file bases table) table
unfolding records_of
filled_by_lem (Ok v) file bases table o e h f = rw (e, h, f v.hunks v.bytes refl)
filled_by_lem (Err r) file bases table o e h f = rw e

module _ (file : List ℕ) (old : Option (List ℕ)) (to m table w m1 w1 : List ℕ) (o : Outcome)
    (l : Places file old to m w (records_in table) o m1 w1) where
  facts_of : (t n : ℕ) → o.answer ≡ accepted t n
      → AcceptedFile file t n × (length to ≡ total_of file) × SameLength old to × (n ≤ length m)
      × (t ≤ records_in table)
  facts_of t n e = place_facts file old to (length m) (records_in table) (length w) t n o.answer l.answer e

  pub place_fills : Fills o (length table)
  place_fills =
      fills_by o.answer file to o (length table) refl l.numbers
      (λ t n e. let f = facts_of t n e in (
        omega (arith, f.0.hunks, f.0.header.few),
        omega (arith, f.4),
      ))

  recorded_at : (r : Answer) (t1 : List ℕ) → r ≡ o.answer → t1 ≡ filled o table
      → t1 ≡ effect r (table_of file to table) table
  recorded_at r t1 e h =
      h ∙ filled_by_lem o.answer file to table o refl l.numbers (λ t n x. (facts_of t n x).0.hunks)
      ∙ ap (λ a. effect a (table_of file to table) table) (sym e)

module _ (file m table w m1 w1 : List ℕ) (o : Outcome) (r : Answer) (t1 : List ℕ) (e : r ≡ o.answer)
    (h : t1 ≡ filled o table) where
  pub load_returns : (bases : List ℕ) → LoadsCore file bases m w (records_in table) o m1 w1
      → Loads file bases m table w r m1 t1 w1
  load_returns bases l =
      record {
        answer = e ∙ l.answer;
        numbers = ap numbers_of (e ∙ l.answer);
        loaded = l.placed ∙ ap (λ a. effect a (load_of file bases m) m) (sym e);
        recorded = recorded_at file None bases m table w m1 w1 o l r t1 e h;
        clean = l.clean;
      }

  pub move_returns : (old new : List ℕ) → MovesCore file old new m w (records_in table) o m1 w1
      → Moves file old new m table w r m1 t1 w1
  move_returns old new l =
      record {
        answer = e ∙ l.answer;
        numbers = ap numbers_of (e ∙ l.answer);
        shifted = l.placed ∙ ap (λ a. effect a (move_of file old new m) m) (sym e);
        recorded = recorded_at file (Some old) new m table w m1 w1 o l r t1 e h;
        clean = l.clean;
      }

-- What an accepted file has, and what the calls answer and leave. Assumes nothing.
use Rattle.std.specs.Prelude.{Result, Ok, Err, Option, None, Some}
use Rattle.std.proofs.Common.{◌≡◌, ℕ, ◌+◌, ◌*◌, ◌%◌, ◌≤◌, Bool, true, false, eqb, ltb, List, [], ◌∷◌, ◌++◌, length}
use lib.ListN.{length-replicate}
use Rattle.std.proofs.Common.{replicate, take, drop, sym, refl, ap, ◌∙◌, arith, length-take-le, ltb-false, eqb-true}
use Rattle.answers.specs.Numbers as fault
use Rattle.program.specs.Types as type
use Rattle.answers.specs.Tests.{pick}
use Rattle.answers.proofs.Tests.{pick_passed}
use Rattle.answers.specs.Refusals.{refusal}
use Rattle.answers.specs.declared.Refusal.{Refusal}
use Rattle.answers.proofs.Clashes.{impossible}
use Rattle.program.specs.declared.reader.Cursor.{Cursor}
use Rattle.program.specs.declared.reader.Mode.{Mode}
use Rattle.program.specs.declared.reader.Mode.TheVariants as mode
use Rattle.program.specs.Header.{total_of, space_of, start_at, heads}
use Rattle.program.specs.Reader.{Next, start, step_of}
use Rattle.program.specs.Check.{Answer, accepted, ended_of, next, walk, words_from, and, check_of}
use Rattle.program.specs.Cursors.{CursorFits, ModeFits, place_of}
use Rattle.program.proofs.Answers.{accepted_same, not_accepted}
use Rattle.program.proofs.Heads.{header_fits}
use Rattle.program.proofs.CursorsFit.{step_fits, start_fits}
use Rattle.loader.specs.declared.calls.Outcome.{Outcome}
use Rattle.loader.specs.Memory.{loaded_of}
use Rattle.loader.specs.Table.{record_length, with_numbers}
use Rattle.loader.specs.Bases.{bases_from, bases_fault}
use Rattle.loader.specs.Near.{clash_of}
use Rattle.loader.specs.Calls.{room_fault, also, last_tests, load_answer, move_answer}
use Rattle.loader.specs.Parts.{Fills, filled_by, filled, AcceptedFile, and_then, lists_fault, answer_of}
use Rattle.program.specs.declared.check.Extent.{Extent}
use Rattle.loader.proofs.Copies.{over_front}

-- ---- an accepted walk ends after the last hunk

record OfAllHunks (file : List ℕ) (t n : ℕ) : Type 0 where
  hunks : t ≡ total_of file
  bytes : n ≡ loaded_of file

module _ (file : List ℕ) (t n : ℕ) where
  ended_all : (c : Cursor) (m : Mode) → c.place ≡ place_of (space_of file) c.hunk
      → ModeFits (total_of file) c.hunk c.stored m → ended_of (length file) c m ≡ accepted t n
      → OfAllHunks file t n
  ended_all c mode.End p h e =
      let q = accepted_same c.hunk c.place t n e in
      record { hunks = sym q.0 ∙ h; bytes = sym q.1 ∙ p ∙ ap (place_of (space_of file)) h }
  ended_all c mode.Begin p h e = not_accepted e
  ended_all c mode.NameLength p h e = not_accepted e
  ended_all c mode.Body p h e = not_accepted e
  ended_all c (mode.Length k) p h e = not_accepted e
  ended_all c (mode.Stored i) p h e = not_accepted e
  ended_all c mode.Part p h e = not_accepted e
  ended_all c mode.Count p h e = not_accepted e
  ended_all c (mode.Number x) p h e = not_accepted e
  ended_all c (mode.Offset x y) p h e = not_accepted e
  ended_all c mode.Symbol p h e = not_accepted e
  ended_all c mode.DebugLength p h e = not_accepted e
  ended_all c (mode.Skip x a) p h e = not_accepted e

  walk_all : (at : ℕ) (c : Cursor) (ws : List ℕ) → CursorFits file c
      → walk (total_of file) (space_of file) (length file) at c ws ≡ accepted t n → OfAllHunks file t n
  unfolding walk
  walk_all at c [] s e = ended_all c c.mode s.place s.mode e
  walk_all at c (w ∷ ws) s e =
      go (step_of (total_of file) (space_of file) c w) refl e
      (λ d x y. walk_all (at + 4) d ws (step_fits file c w d s x) y)
    where
      go : (r : Next) → step_of (total_of file) (space_of file) c w ≡ r
          → next r at (λ d. walk (total_of file) (space_of file) (length file) (at + 4) d ws) ≡ accepted t n
          → ((d : Cursor) → step_of (total_of file) (space_of file) c w ≡ Ok d
          → walk (total_of file) (space_of file) (length file) (at + 4) d ws ≡ accepted t n → OfAllHunks file t n)
          → OfAllHunks file t n
      go (Ok d) x y f = f d x y
      go (Err v) x y f = not_accepted y

  pick_not : (b : Bool) (r : Refusal) (a : Answer) → pick b (Err r) a ≡ accepted t n → a ≡ accepted t n
  unfolding pick
  pick_not true r a h = not_accepted h
  pick_not false r a h = h

  pick_so : (b : Bool) (r : Refusal) (a : Answer) → pick b a (Err r) ≡ accepted t n
      → (b ≡ true) × (a ≡ accepted t n)
  unfolding pick
  pick_so true r a h = (refl, h)
  pick_so false r a h = not_accepted h

  and_so : (h : Result Unit Refusal) (a : Answer) → and h a ≡ accepted t n → (h ≡ Ok tt) × (a ≡ accepted t n)
  and_so (Ok u) a h = (refl, h)
  and_so (Err r) a h = not_accepted h

  pub checked : check_of file ≡ accepted t n → AcceptedFile file t n
  unfolding check_of
  checked h =
      let a =
      pick_so (eqb (length file % 4) 0) (refusal fault.file_length 0) _
      (pick_not (eqb (length file) 0) (refusal fault.file_length 0) _ h) in
      let b = and_so (heads file 0 5) _ a.1 in
      let c = and_so (heads file 5 (total_of file)) _ b.1 in
      let s = header_fits file b.0 c.0 in
      let w = walk_all (start_at file) start (words_from file (start_at file)) (start_fits file s) c.1 in
      record { header = s; whole = eqb-true _ _ a.0; hunks = w.hunks; bytes = w.bytes }

-- ---- further tests

pub also_so : (a : Answer) (h : Result Unit Refusal) (t n : ℕ) → also a h ≡ accepted t n
    → (a ≡ accepted t n) × (h ≡ Ok tt)
also_so (Ok v) (Ok u) t n e = (e, refl)
also_so (Ok v) (Err r) t n e = not_accepted e
also_so (Err r) h t n e = not_accepted e

pub also_both : (a : Answer) (h : Result Unit Refusal) (t n : ℕ) → a ≡ accepted t n → h ≡ Ok tt
    → also a h ≡ accepted t n
also_both a h t n e f = rw (e, f)

pub room_passed : (t n m tb w : ℕ) → room_fault t n m tb w ≡ Ok tt → (n ≤ m) × (t ≤ tb) × (n ≤ w)
room_passed t n m tb w h =
    let a = pick_passed (ltb m n) (refusal fault.short_room 0) _ h in
    let b = pick_passed (ltb tb t) (refusal fault.short_room 0) _ a.1 in
    let c = pick_passed (ltb w n) (refusal fault.short_room 0) _ b.1 in
    (ltb-false m n a.0, ltb-false tb t b.0, ltb-false w n c.0)

pub bases_passed : (file bases : List ℕ) (from : ℕ) → bases_fault file bases from ≡ Ok tt
    → length bases ≡ total_of file
unfolding bases_fault pick
bases_passed file bases from h = go (eqb (length bases) (total_of file)) refl h
  where
    go : (b : Bool) → eqb (length bases) (total_of file) ≡ b
        → pick b (bases_from file bases from 0 (total_of file)) (Err (refusal fault.bad_base from)) ≡ Ok tt
        → length bases ≡ total_of file
    go true e q = eqb-true _ _ e
    go false e q = impossible cc

-- ---- the answer, in code

pub all_zeros : (w : List ℕ) (n : ℕ) → w ≡ replicate n 0 → w ≡ replicate (length w) 0
all_zeros w n e = e ∙ ap (λ (j : ℕ). replicate j 0) (sym (ap length e ∙ length-replicate n 0))

pub check_passed : (file : List ℕ) (v : Answer) → v ≡ check_of file → (x : Extent) → v ≡ Ok x
    → AcceptedFile file x.hunks x.bytes
check_passed file v e x h = checked file x.hunks x.bytes (sym e ∙ h)

pub bytes_fit : (t n m tb w : ℕ) (k : Result Unit Refusal) {u : Unit} → k ≡ room_fault t n m tb w → k ≡ Ok u → n ≤ w
bytes_fit t n m tb w k e h = (room_passed t n m tb w (sym e ∙ h)).2

also_and : (a : Answer) (h k : Result Unit Refusal) → also (also a h) k ≡ also a (and_then h k)
also_and (Ok v) (Ok u) k = refl
also_and (Ok v) (Err r) k = refl
also_and (Err r) h k = refl

module _ (file : List ℕ) (old : Option (List ℕ)) (to : List ℕ) (m tb w : ℕ) where
  -- tests one after the other
  answer_all : answer_of file old to m tb w ≡ last_tests file (also (check_of file) (lists_fault file old to)) m tb w
  unfolding load_answer move_answer
  answer_all = go old
    where
      go : (old : Option (List ℕ))
          → answer_of file old to m tb w ≡ last_tests file (also (check_of file) (lists_fault file old to)) m tb w
      go None = refl
      go (Some l) = ap (λ a. last_tests file a m tb w) (also_and (check_of file) (bases_fault file l 0) _)

  module _ (v : Answer) (ev : v ≡ check_of file) where
    pub check_stops : {f : Refusal} → v ≡ Err f → Err f ≡ answer_of file old to m tb w
    check_stops e = sym (answer_all ∙ rw (sym ev ∙ e))

    module _ (x : Extent) (ex : v ≡ Ok x) where
      checked_of : AcceptedFile file x.hunks x.bytes
      checked_of = checked file x.hunks x.bytes (sym ev ∙ ex)

      module _ (h : Result Unit Refusal) (eh : h ≡ lists_fault file old to) where
        pub lists_stop : {f : Refusal} → h ≡ Err f → Err f ≡ answer_of file old to m tb w
        lists_stop e = sym (answer_all ∙ rw (sym ev ∙ ex, sym eh ∙ e))

        module _ {u : Unit} (goes : h ≡ Ok u) (k : Result Unit Refusal)
            (ek : k ≡ room_fault x.hunks x.bytes m tb w) where
          room_same : room_fault (total_of file) (loaded_of file) m tb w ≡ k
          room_same =
              ap (λ n. room_fault n (loaded_of file) m tb w) (sym checked_of.hunks)
              ∙ ap (λ n. room_fault x.hunks n m tb w) (sym checked_of.bytes) ∙ sym ek

          pub room_stops : {f : Refusal} → k ≡ Err f → Err f ≡ answer_of file old to m tb w
          room_stops e = sym (answer_all ∙ rw (sym ev ∙ ex, sym eh ∙ goes, room_same ∙ e))

          module _ {u' : Unit} (fits : k ≡ Ok u') where
            module _ (c : Result Unit Refusal) (ec : c ≡ clash_of file) where
              pub near_stops : {f : Refusal} → c ≡ Err f → Err f ≡ answer_of file old to m tb w
              near_stops e = sym (answer_all ∙ rw (sym ev ∙ ex, sym eh ∙ goes, room_same ∙ fits, sym ec ∙ e))

              pub all_pass : {u'' : Unit} → c ≡ Ok u'' → Ok x ≡ answer_of file old to m tb w
              all_pass e = sym (answer_all ∙ rw (sym ev ∙ ex, sym eh ∙ goes, room_same ∙ fits, sym ec ∙ e))

-- ---- what an accepted call has

pub record LoadFacts (file bases : List ℕ) (m tb w t n : ℕ) : Type 0 where
  pub file_accepted : AcceptedFile file t n
  pub bases_good : bases_fault file bases 0 ≡ Ok tt
  pub count : length bases ≡ total_of file
  pub fits : loaded_of file ≤ m
  pub records : total_of file ≤ tb
  pub works : loaded_of file ≤ w
  pub apart : clash_of file ≡ Ok tt

load_with : (file bases : List ℕ) (m tb w t n : ℕ) (a : Answer)
    → (a ≡ accepted t n → (check_of file ≡ accepted t n) × (bases_fault file bases 0 ≡ Ok tt))
    → last_tests file a m tb w ≡ accepted t n → LoadFacts file bases m tb w t n
load_with file bases m tb w t n v f h =
    let a = also_so _ (clash_of file) t n h in
    let b = also_so _ (room_fault (total_of file) (loaded_of file) m tb w) t n a.0 in
    let c = f b.0 in
    let r = room_passed _ _ m tb w b.1 in
    record {
      file_accepted = checked file t n c.0;
      bases_good = c.1;
      count = bases_passed file bases 0 c.1;
      fits = r.0;
      records = r.1;
      works = r.2;
      apart = a.1;
    }

pub load_facts : (file bases : List ℕ) (m tb w t n : ℕ) (r : Answer) → r ≡ load_answer file bases m tb w
    → r ≡ accepted t n → LoadFacts file bases m tb w t n
unfolding load_answer
load_facts file bases m tb w t n r er h =
    load_with file bases m tb w t n (also (check_of file) (bases_fault file bases 0))
    (also_so (check_of file) (bases_fault file bases 0) t n) (sym er ∙ h)

pub record MoveFacts (file old new : List ℕ) (m tb w t n : ℕ) : Type 0 where
  pub load : LoadFacts file old m tb w t n
  pub count : length new ≡ total_of file

pub move_facts : (file old new : List ℕ) (m tb w t n : ℕ) (r : Answer) → r ≡ move_answer file old new m tb w
    → r ≡ accepted t n → MoveFacts file old new m tb w t n
unfolding move_answer
move_facts file old new m tb w t n r er h =
    let x = also (also (check_of file) (bases_fault file old 0)) (bases_fault file new (total_of file)) in
    let a = also_so _ (clash_of file) t n (sym er ∙ h) in
    let b = also_so x (room_fault (total_of file) (loaded_of file) m tb w) t n a.0 in
    let c = also_so (also (check_of file) (bases_fault file old 0)) (bases_fault file new (total_of file)) t n b.0 in
    record {
      load =
          load_with file old m tb w t n x (λ _. also_so (check_of file) (bases_fault file old 0) t n c.0)
          (sym er ∙ h);
      count = bases_passed file new (total_of file) c.1;
    }

-- ---- the table is filled

module _ (o : Outcome) (room t n : ℕ) (p : Fills o room) (e : o.answer ≡ accepted t n) where
  fills : (t ≤ type.most_hunks) × (record_length * t ≤ room)
  fills = rw e at p.fills

  pub fill_from : record_length * t ≤ length o.records
  fill_from = omega (arith, fills.0, p.whole)

  pub fill_cut : record_length * t ≡ length (take (record_length * t) o.records)
  fill_cut = sym (length-take-le (record_length * t) o.records fill_from)

  pub fill_to : 0 + length (take (record_length * t) o.records) ≤ room
  fill_to = omega (arith, fill_cut, fills.1)

pub fill_done : (o : Outcome) (table r : List ℕ) (t n : ℕ) → Fills o (length table) → o.answer ≡ accepted t n
    → r ≡ with_numbers table 0 (take (record_length * t) o.records) → r ≡ filled o table
fill_done o table r t n p e h =
    let k : ℕ = record_length * t in
    h ∙ over_front table (take k o.records) (omega (arith, fill_to o (length table) t n p e))
    ∙ ap (λ (j : ℕ). take k o.records ++ drop j table) (sym (fill_cut o (length table) t n p e))
    ∙ sym (ap (λ a. filled_by a o.records table) e)

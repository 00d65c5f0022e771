-- What holds of the reader goes on to hold, and what a word asks for lies inside. Assumes nothing.
use Prim.Native.Nat.{ℕ, ◌+◌, ◌*◌, ◌-◌, ◌%◌, ◌<◌, ◌≤◌}
use mathlib.Core.Path.{◌≡◌, refl, ap, subst}
use mathlib.Core.List.{List}
use mathlib.Core.Bool.{Bool, true, false}
use native.Mathlib.Omega.{arith}
use native.Mathlib.Numerals.{add-one}
use lib.Dec.{ltb, leb, eqb}
use borrow.Author.Tests.{ltb-true, ltb-false, eqb-true, eqb-false}
use Rattle.std.specs.Prelude.{Ok, Err}
use Rattle.program.specs.Types as type
use Rattle.answers.specs.Numbers as fault
use Rattle.answers.specs.Tests.{pick}
use Rattle.answers.proofs.Clashes.{impossible}
use Rattle.program.specs.declared.reader.Cursor.{Cursor}
use Rattle.program.specs.declared.reader.After.{After}
use Rattle.program.specs.declared.reader.After.TheVariants as after
use Rattle.program.specs.declared.reader.Mode.{Mode}
use Rattle.program.specs.declared.reader.Mode.TheVariants.{Begin, NameLength, Body, Length, Stored, Part}
use Rattle.program.specs.declared.reader.Mode.TheVariants.{Count, Number, Offset, Symbol, DebugLength, Skip}
use Rattle.program.specs.declared.reader.Mode.TheVariants.{End}
use Rattle.program.specs.Header.{total_of, space_of, size_of}
use Rattle.program.specs.Reader.{Next, start, on, resume, skip, body_of, stored_from, length_of, end_of, part_of}
use Rattle.program.specs.Reader.{count_of, number_of, offset_of, symbol_of, turn, step_of}
use Rattle.program.specs.Cursors.{HeaderFits, place_of, ModeFits, CursorFits}

pub bad_on : {A : Type 0} (e : ℕ) (d : Cursor) → ◌≡◌ {A = Next} (Err e) (Ok d) → A
bad_on e d h = impossible cc

pub on_on : (a d : Cursor) → ◌≡◌ {A = Next} (Ok a) (Ok d) → a ≡ d
on_on a d h = cc

-- a choice that goes on went one of two ways
pub pick_on : {Q : Type 0} (b : Bool) (x y r : Next) → (b ≡ true → x ≡ r → Q) → (b ≡ false → y ≡ r → Q)
    → pick b x y ≡ r → Q
unfolding pick
pick_on true x y r f g h = f refl h
pick_on false x y r f g h = g refl h

zero-le : {n : ℕ} → 0 ≤ n
zero-le = omega arith

pick_less : {w n : ℕ} (b : Bool) → w ≤ n → pick b 0 w ≤ n
unfolding pick
pick_less true l = zero-le
pick_less false l = l

resume_fits : (t h n : ℕ) (a : After) → h < t → ModeFits t h n (resume a)
resume_fits t h n after.Body l = l
resume_fits t h n after.Symbol l = l
resume_fits t h n after.Part l = l

module _ (file : List ℕ) (c : Cursor) (w : ℕ) (d : Cursor) (s : CursorFits file c) where
  -- all but the mode stays
  kept : (m : Mode) → ModeFits (total_of file) c.hunk c.stored m → on c m ≡ Ok d → CursorFits file d
  kept m f e =
      subst (CursorFits file) (on_on _ d e)
      (record { header = s.header; hunks = s.hunks; place = s.place; low = s.low; fits = s.fits; mode = f })

  module _ (h : c.hunk < total_of file) where
    skip_fits : (n : ℕ) (a : After) → skip c n a ≡ Ok d → CursorFits file d
    skip_fits n a =
        pick_on (eqb n 0) (on c (resume a)) (on c (Skip (n - 1) a)) (Ok d)
        (λ _. kept (resume a) (resume_fits (total_of file) c.hunk c.stored a h))
        (λ _. kept (Skip (n - 1) a) h)

    body_fits : body_of c w ≡ Ok d → CursorFits file d
    body_fits =
        pick_on (eqb w type.code) (on c (Length w))
        (pick (eqb w type.stores) (on c (Length w))
        (pick (eqb w type.bss) (on c (Length w)) (Err fault.misplaced_block))) (Ok d) (λ _. kept (Length w) h)
        (λ _. pick_on (eqb w type.stores) (on c (Length w))
        (pick (eqb w type.bss) (on c (Length w)) (Err fault.misplaced_block)) (Ok d) (λ _. kept (Length w) h)
        (λ _. pick_on (eqb w type.bss) (on c (Length w)) (Err fault.misplaced_block) (Ok d) (λ _. kept (Length w) h)
        (λ _. bad_on fault.misplaced_block d)))

    -- of n stored words, the word i comes next
    stored_fits : (n i : ℕ) → i ≤ n → n ≤ size_of file c.hunk
        → stored_from (record { mode = Part; hunk = c.hunk; place = c.place; stored = n }) i ≡ Ok d
        → CursorFits file d
    stored_fits n i l z =
        let e : Cursor = record { mode = Part; hunk = c.hunk; place = c.place; stored = n } in
        pick_on (eqb i n) (on e Part) (on e (Stored i)) (Ok d)
        (λ q x. subst (CursorFits file) (on_on _ d x)
        (record { header = s.header; hunks = s.hunks; place = s.place; low = s.low; fits = z; mode = h }))
        (λ q x. subst (CursorFits file) (on_on _ d x)
        (record {
          header = s.header;
          hunks = s.hunks;
          place = s.place;
          low = s.low;
          fits = z;
          mode = (h, omega (arith, eqb-false i n q));
        }))

    length_fits : (kind : ℕ) → length_of (space_of file) c kind w ≡ Ok d → CursorFits file d
    length_fits kind =
        pick_on (ltb (size_of file c.hunk) w) (Err fault.body_length)
        (stored_from (record {
          mode = Part;
          hunk = c.hunk;
          place = c.place;
          stored = pick (eqb kind type.bss) 0 w;
        }) 0) (Ok d)
        (λ _. bad_on fault.body_length d)
        (λ q. stored_fits (pick (eqb kind type.bss) 0 w) 0 zero-le
        (pick_less (eqb kind type.bss) (ltb-false (size_of file c.hunk) w q)))

    end_fits : end_of (total_of file) (space_of file) c ≡ Ok d → CursorFits file d
    unfolding place_of pick
    end_fits e =
        let z = (s.header.spaces c.hunk h).size in
        subst (CursorFits file) (on_on _ d e)
        (record {
          header = s.header;
          hunks = omega arith;
          place = rw (add-one c.hunk) (ap (λ (p : ℕ). p + 4 * size_of file c.hunk) s.place);
          low = omega (arith, s.low);
          fits = zero-le;
          mode = go (eqb (c.hunk + 1) (total_of file)) refl;
        })
      where
        go : (b : Bool) → eqb (c.hunk + 1) (total_of file) ≡ b
            → ModeFits (total_of file) (c.hunk + 1) 0 (pick b End Begin)
        go true q = eqb-true (c.hunk + 1) (total_of file) q
        go false q = let x = eqb-false (c.hunk + 1) (total_of file) q in omega (arith, x)

    part_fits : part_of (total_of file) (space_of file) c w ≡ Ok d → CursorFits file d
    part_fits =
        let z : Next = pick (eqb w type.end) (end_of (total_of file) (space_of file) c) (Err fault.misplaced_block) in
        let y : Next = pick (eqb w type.debug) (on c DebugLength) z in
        let x : Next = pick (eqb w type.symbols) (on c Symbol) y in
        pick_on (eqb w type.relocation) (on c Count) x (Ok d) (λ _. kept Count h)
        (λ _. pick_on (eqb w type.symbols) (on c Symbol) y (Ok d) (λ _. kept Symbol h)
        (λ _. pick_on (eqb w type.debug) (on c DebugLength) z (Ok d) (λ _. kept DebugLength h)
        (λ _. pick_on (eqb w type.end) (end_of (total_of file) (space_of file) c) (Err fault.misplaced_block) (Ok d)
        (λ _. end_fits) (λ _. bad_on fault.misplaced_block d))))

    count_fits : count_of c w ≡ Ok d → CursorFits file d
    count_fits =
        pick_on (eqb w 0) (on c Part) (on c (Number (w - 1))) (Ok d) (λ _. kept Part h) (λ _. kept (Number (w - 1)) h)

    number_fits : (n : ℕ) → number_of (total_of file) c n w ≡ Ok d → CursorFits file d
    number_fits n =
        pick_on (ltb w (total_of file)) (on c (Offset n w)) (Err fault.bad_target) (Ok d)
        (λ q. kept (Offset n w) (h, ltb-true w _ q)) (λ _. bad_on fault.bad_target d)

    module _ (n k : ℕ) where
      abbrev onward : Next
      onward = pick (eqb n 0) (on c Count) (on c (Offset (n - 1) k))

      offset_fits : k < total_of file → offset_of c n k w ≡ Ok d → CursorFits file d
      offset_fits l =
          pick_on (eqb (w % 2) 0) (pick (ltb (4 * c.stored) (w + 4)) (Err fault.bad_target) onward)
          (Err fault.bad_target) (Ok d)
          (λ _. pick_on (ltb (4 * c.stored) (w + 4)) (Err fault.bad_target) onward (Ok d)
          (λ _. bad_on fault.bad_target d)
          (λ _. pick_on (eqb n 0) (on c Count) (on c (Offset (n - 1) k)) (Ok d) (λ _. kept Count h)
          (λ _. kept (Offset (n - 1) k) (h, l))))
          (λ _. bad_on fault.bad_target d)

      -- an offset that is taken lies in the stored words
      pub offset_in : offset_of c n k w ≡ Ok d → w + 4 ≤ 4 * c.stored
      offset_in =
          pick_on (eqb (w % 2) 0) (pick (ltb (4 * c.stored) (w + 4)) (Err fault.bad_target) onward)
          (Err fault.bad_target) (Ok d)
          (λ _. pick_on (ltb (4 * c.stored) (w + 4)) (Err fault.bad_target) onward (Ok d)
          (λ _. bad_on fault.bad_target d) (λ q _. ltb-false _ _ q))
          (λ _. bad_on fault.bad_target d)

    symbol_fits : symbol_of c w ≡ Ok d → CursorFits file d
    symbol_fits =
        let y : Next = pick (leb 0x1000000 w) (Err fault.symbol_type) (on c (Skip w after.Symbol)) in
        pick_on (eqb w 0) (on c Part) y (Ok d) (λ _. kept Part h)
        (λ _. pick_on (leb 0x1000000 w) (Err fault.symbol_type) (on c (Skip w after.Symbol)) (Ok d)
        (λ _. bad_on fault.symbol_type d) (λ _. kept (Skip w after.Symbol) h))

  turn_fits : (m : Mode) → ModeFits (total_of file) c.hunk c.stored m
      → turn (total_of file) (space_of file) c w m ≡ Ok d → CursorFits file d
  turn_fits Begin h =
      pick_on (eqb w type.name) (on c NameLength) (body_of c w) (Ok d) (λ _. kept NameLength h) (λ _. body_fits h)
  turn_fits NameLength h = skip_fits h w after.Body
  turn_fits Body h = body_fits h
  turn_fits (Length kind) h = length_fits h kind
  turn_fits (Stored i) h = stored_fits h.0 c.stored (i + 1) (omega (arith, h.1)) s.fits
  turn_fits Part h = part_fits h
  turn_fits Count h = count_fits h
  turn_fits (Number n) h = number_fits h n
  turn_fits (Offset n k) h = offset_fits h.0 n k h.1
  turn_fits Symbol h = symbol_fits h
  turn_fits DebugLength h = skip_fits h w after.Part
  turn_fits (Skip n a) h = skip_fits h n a
  turn_fits End h = bad_on fault.trailing_words d

  pub step_fits : step_of (total_of file) (space_of file) c w ≡ Ok d → CursorFits file d
  unfolding step_of
  step_fits = turn_fits c.mode s.mode

pub start_fits : (file : List ℕ) → HeaderFits file → CursorFits file start
unfolding place_of
start_fits file s =
    record {
      header = s;
      hunks = omega arith;
      place = refl;
      low = omega arith;
      fits = omega arith;
      mode = omega (arith, s.some);
    }

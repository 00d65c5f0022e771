-- One act at a time: what it asks lies inside, and what it does. Assumes nothing.
use Rattle.std.specs.Prelude.{Ok}
use Rattle.std.proofs.Common.{◌≡◌, ℕ, zero, suc, ◌+◌, ◌*◌, ◌<◌, ◌≤◌, Bool, true, false, eqb, List, [], ◌∷◌, length, sym}
use Rattle.std.proofs.Common.{refl, ◌∙◌, arith}
use native.Mathlib.Decide.{dec_lt}
use Rattle.program.specs.Runs.{Reads}
use Rattle.program.specs.Types as type
use Rattle.words.specs.Shift.{Target, shift_all}
use Rattle.words.proofs.Words.{length_set_word, length_add_at}
use Rattle.answers.specs.Tests.{pick}
use Rattle.program.specs.declared.act.Act.{Act}
use Rattle.program.specs.declared.act.Act.TheVariants.{Quiet, Body, Store, Add}
use Rattle.program.specs.declared.reader.Cursor.{Cursor}
use Rattle.program.specs.declared.reader.Mode.{Mode}
use Rattle.program.specs.declared.reader.Mode.TheVariants as mode
use Rattle.program.specs.Spaces.{Space}
use Rattle.program.specs.Header.{total_of, space_of, size_of}
use Rattle.program.specs.Reader.{Next, turn, step_of}
use Rattle.program.specs.Acts.{asks, act_of, pass}
use Rattle.program.specs.Cursors.{HeaderFits, CursorFits, ModeFits, place_of}
use Rattle.program.proofs.CursorsFit.{offset_in}
use Rattle.loader.specs.Memory.{loaded_of, store_one, target_one, targets, shift_one}
use Rattle.loader.specs.Parts.{ActFits}
use Rattle.loader.specs.Table.{record_length, record_one}
use Rattle.loader.proofs.Copies.{length_with}

-- ---- what a word asks for lies inside

zero-le : {n : ℕ} → 0 ≤ n
zero-le = omega arith

place_up : (space : ℕ → Space) (i j : ℕ) → i ≤ j → place_of space i ≤ place_of space j
unfolding place_of
place_up space zero j h = zero-le
place_up space (suc i) zero h = absurd (omega arith)
place_up space (suc i) (suc j) h = go (dec_lt i j) (λ q. place_up space (suc i) j q)
  where
    go : Dec (i < j) → (suc i ≤ j → place_of space (suc i) ≤ place_of space j)
        → place_of space (suc i) ≤ place_of space (suc j)
    go (yes q) f = omega (arith, f (omega arith))
    go (no q) f = let e : i ≡ j = omega arith in rw e (omega arith)

opened : (space : ℕ → Space) (i : ℕ) → place_of space (suc i) ≡ place_of space i + 4 * (space i).size
unfolding place_of
opened space i = refl

pub hunk_inside : (file : List ℕ) (c : Cursor) → CursorFits file c → c.hunk < total_of file
    → c.place + 4 * size_of file c.hunk ≤ loaded_of file
hunk_inside file c s h =
    omega (arith, s.place, place_up (space_of file) (suc c.hunk) (total_of file) h, opened (space_of file) c.hunk)

module _ (file : List ℕ) (c : Cursor) (at w : ℕ) (d : Cursor) (s : CursorFits file c) where
  low : c.place < 4294967296
  low = omega (arith, s.low, s.hunks, s.header.few)

  fits_in : (m : Mode) → ModeFits (total_of file) c.hunk c.stored m
      → turn (total_of file) (space_of file) c w m ≡ Ok d → ActFits (loaded_of file) (total_of file) (asks c at w m)
  unfolding pick
  fits_in mode.Begin h e = go (eqb w type.name)
    where
      go : (b : Bool) → ActFits (loaded_of file) (total_of file) (pick b Quiet (Body c.hunk c.place w))
      go true = tt
      go false = (h, low)
  fits_in mode.NameLength h e = tt
  fits_in mode.Body h e = (h, low)
  fits_in (mode.Length k) h e = tt
  fits_in (mode.Stored i) h e = omega (arith, hunk_inside file c s h.0, s.fits, h.1)
  fits_in mode.Part h e = tt
  fits_in mode.Count h e = tt
  fits_in (mode.Number n) h e = tt
  fits_in (mode.Offset n k) h e =
      (omega (arith, hunk_inside file c s h.0, s.fits, offset_in file c w d s h.0 n k e), h.1)
  fits_in mode.Symbol h e = tt
  fits_in mode.DebugLength h e = tt
  fits_in (mode.Skip n a) h e = tt
  fits_in mode.End h e = tt

  pub act_fits : step_of (total_of file) (space_of file) c w ≡ Ok d
      → ActFits (loaded_of file) (total_of file) (act_of c at w)
  unfolding step_of act_of
  act_fits = fits_in c.mode s.mode

pub more_room : (m n t u : ℕ) (a : Act) → m ≤ n → t ≤ u → ActFits m t a → ActFits n u a
more_room m n t u Quiet h k f = tt
more_room m n t u (Body x p z) h k f = (omega (arith, f.0), f.1)
more_room m n t u (Store p w) h k f = omega arith
more_room m n t u (Add p z b) h k f = (omega (arith, f.0), omega (arith, f.1))

fits : (file : List ℕ) (c : Cursor) (at w : ℕ) (r : Next) (d : Cursor) (a : Act) (n t : ℕ) → CursorFits file c
    → r ≡ step_of (total_of file) (space_of file) c w → r ≡ Ok d → a ≡ act_of c at w → loaded_of file ≤ n
    → total_of file ≤ t
    → ActFits n t a
fits file c at w r d a n t s q e x h k =
    more_room (loaded_of file) n (total_of file) t a h k (rw x (act_fits file c at w d s (sym q ∙ e)))

-- the same in the loop of a pass, as its code asks it
module _ (file : List ℕ) (c : Cursor) (at w : ℕ) (r : Next) (d : Cursor) (a : Act) (i : Reads file c at)
    (q : r ≡ step_of (total_of file) (space_of file) c w) (e : r ≡ Ok d) (x : a ≡ act_of c at w) where
  pub reads_fits : (n t : ℕ) → loaded_of file ≤ n → total_of file ≤ t → ActFits n t a
  reads_fits n t = fits file c at w r d a n t i.fits q e x

place_low : (file : List ℕ) → HeaderFits file → (i : ℕ) → i ≤ total_of file → place_of (space_of file) i ≤ i * 262144
unfolding place_of
place_low file s zero h = omega arith
place_low file s (suc i) h = omega (arith, place_low file s i (omega arith), (s.spaces i (omega arith)).size)

pub loaded_low : (file : List ℕ) → HeaderFits file → loaded_of file ≤ 4294967296
loaded_low file s = omega (arith, place_low file s (total_of file) (omega arith), s.few)

-- ---- storing

pub length_store_one : (m : List ℕ) (a : Act) → length (store_one m a) ≡ length m
length_store_one m Quiet = refl
length_store_one m (Body x p k) = refl
length_store_one m (Store p w) = length_set_word m p w
length_store_one m (Add p k b) = refl

-- ---- adding

pub add_rest : (m : List ℕ) (f : ℕ → ℕ) (a : Act) → ((p k b : ℕ) → a ≡ Add p k b → ⊥) → m ≡ shift_one m f a
add_rest m f Quiet h = refl
add_rest m f (Body x p k) h = refl
add_rest m f (Store p w) h = refl
add_rest m f (Add p k b) h = absurd (h p k b refl)

pub length_shift_one : (f : ℕ → ℕ) (m : List ℕ) (a : Act) → length (shift_one m f a) ≡ length m
length_shift_one f m Quiet = refl
length_shift_one f m (Body x p k) = refl
length_shift_one f m (Store p w) = refl
length_shift_one f m (Add p k b) = length_add_at m p (f k)

-- a pass that adds is relocation over the targets
shift_target : (m : List ℕ) (f : ℕ → ℕ) (a : Act) (ts : List Target)
    → shift_all (shift_one m f a) ts f ≡ shift_all m (target_one a ts) f
unfolding shift_all
shift_target m f Quiet ts = refl
shift_target m f (Body x p k) ts = refl
shift_target m f (Store p w) ts = refl
shift_target m f (Add p k b) ts = refl

pass_shift : (f : ℕ → ℕ) (m : List ℕ) (us : List Act) → pass (λ x a. shift_one x f a) m us ≡ shift_all m (targets us) f
unfolding pass targets shift_all
pass_shift f m [] = refl
pass_shift f m (a ∷ us) = pass_shift f (shift_one m f a) us ∙ shift_target m f a (targets us)

pub shift_pass : (f : ℕ → ℕ) (m n : List ℕ) (us : List Act) → n ≡ pass (λ x a. shift_one x f a) m us
    → n ≡ shift_all m (targets us) f
shift_pass f m n us e = e ∙ pass_shift f m us

-- ---- recording

pub record_rest : (file bases t : List ℕ) (a : Act) → ((x p k : ℕ) → a ≡ Body x p k → ⊥) → t ≡ record_one file bases t a
record_rest file bases t Quiet h = refl
record_rest file bases t (Body x p k) h = absurd (h x p k refl)
record_rest file bases t (Store p w) h = refl
record_rest file bases t (Add p k b) h = refl

pub length_record_one : (file bases t : List ℕ) (a : Act) → length (record_one file bases t a) ≡ length t
length_record_one file bases t Quiet = refl
length_record_one file bases t (Body h p k) = length_with t (record_length * h) _
length_record_one file bases t (Store p w) = refl
length_record_one file bases t (Add p k b) = refl

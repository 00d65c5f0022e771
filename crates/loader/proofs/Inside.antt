-- All that a sound file asks for lies inside: its targets, their hunks, its records. Assumes nothing.
use Rattle.std.specs.Prelude.{Ok, Err}
use Rattle.std.proofs.Common.{◌≡◌, ℕ, ◌+◌, ◌≤◌, List, [], ◌∷◌, length, drop, replicate, refl, ◌∙◌, arith, length-append}
use Rattle.std.proofs.Common.{length-drop}
use lib.ListN.{length-replicate}
use Rattle.words.specs.Shift.{Target}
use Rattle.words.proofs.Shifts.{Within, Keyed}
use Rattle.program.specs.declared.act.Act.{Act}
use Rattle.program.specs.declared.act.Act.TheVariants.{Quiet, Body, Store, Add}
use Rattle.program.specs.declared.reader.Cursor.{Cursor}
use Rattle.program.specs.Header.{total_of, space_of, start_at}
use Rattle.program.specs.Reader.{Next, start, step_of}
use Rattle.program.specs.Check.{words_from}
use Rattle.program.specs.Acts.{act_of, then, acts, acts_of, pass}
use Rattle.program.specs.Cursors.{HeaderFits, CursorFits}
use Rattle.program.proofs.CursorsFit.{step_fits, start_fits}
use Rattle.loader.specs.Memory.{loaded_of, store_one, with_stored, targets, targets_of, bodies_of}
use Rattle.loader.specs.Parts.{ActFits}
use Rattle.loader.specs.Table.{record_one, with_records}
use Rattle.loader.proofs.Acts.{act_fits, length_store_one, length_record_one}

-- every act lies within n bytes and t hunks
abbrev pub Inside : ℕ → ℕ → List Act → Type 0
Inside n t [] = Unit
Inside n t (a ∷ us) = ActFits n t a × Inside n t us

module _ (file : List ℕ) where
  inside : (at : ℕ) (c : Cursor) (ws : List ℕ) → CursorFits file c
      → Inside (loaded_of file) (total_of file) (acts (total_of file) (space_of file) at c ws)
  unfolding acts
  inside at c [] s = tt
  inside at c (w ∷ ws) s =
      go (step_of (total_of file) (space_of file) c w) refl (λ d e. inside (at + 4) d ws (step_fits file c w d s e))
    where
      go : (r : Next) → step_of (total_of file) (space_of file) c w ≡ r
          → ((d : Cursor) → step_of (total_of file) (space_of file) c w ≡ Ok d
          → Inside (loaded_of file) (total_of file) (acts (total_of file) (space_of file) (at + 4) d ws))
          → Inside (loaded_of file) (total_of file)
          (then r (act_of c at w) (λ d. acts (total_of file) (space_of file) (at + 4) d ws))
      go (Ok d) e f = (act_fits file c at w d s e, f d e)
      go (Err v) e f = tt

  pub all_inside : HeaderFits file → Inside (loaded_of file) (total_of file) (acts_of file)
  all_inside s = inside (start_at file) start (words_from file (start_at file)) (start_fits file s)

module _ (n t : ℕ) where
  within_acts : (us : List Act) → Inside n t us → Within n (targets us)
  unfolding targets
  within_acts [] i = tt
  within_acts (Quiet ∷ us) i = within_acts us i.1
  within_acts (Body h p k ∷ us) i = within_acts us i.1
  within_acts (Store p w ∷ us) i = within_acts us i.1
  within_acts (Add p k b ∷ us) i = (i.0.0, within_acts us i.1)

  keyed_acts : (us : List Act) → Inside n t us → Keyed t (targets us)
  unfolding targets
  keyed_acts [] i = tt
  keyed_acts (Quiet ∷ us) i = keyed_acts us i.1
  keyed_acts (Body h p k ∷ us) i = keyed_acts us i.1
  keyed_acts (Store p w ∷ us) i = keyed_acts us i.1
  keyed_acts (Add p k b ∷ us) i = (i.0.1, keyed_acts us i.1)

pub within_targets : (file : List ℕ) → HeaderFits file → Within (loaded_of file) (targets_of file)
within_targets file s = within_acts (loaded_of file) (total_of file) (acts_of file) (all_inside file s)

pub keyed_targets : (file : List ℕ) → HeaderFits file → Keyed (total_of file) (targets_of file)
keyed_targets file s = keyed_acts (loaded_of file) (total_of file) (acts_of file) (all_inside file s)

pub within_more : (n m : ℕ) (ts : List Target) → n ≤ m → Within n ts → Within m ts
within_more n m [] h w = tt
within_more n m (t ∷ ts) h w = (omega (arith, w.0), within_more n m ts h w.1)

-- ---- lengths

pub length_with_stored : (m : List ℕ) (us : List Act) → length (with_stored m us) ≡ length m
unfolding pass
length_with_stored m [] = refl
length_with_stored m (a ∷ us) = length_with_stored (store_one m a) us ∙ length_store_one m a

pub length_with_records : (file bases t : List ℕ) (us : List Act) → length (with_records file bases t us) ≡ length t
unfolding pass
length_with_records file bases t [] = refl
length_with_records file bases t (a ∷ us) =
    length_with_records file bases (record_one file bases t a) us ∙ length_record_one file bases t a

pub length_bodies : (file m : List ℕ) → loaded_of file ≤ length m → length (bodies_of file m) ≡ length m
length_bodies file m h =
    length_with_stored _ (acts_of file)
    ∙ length-append (replicate (loaded_of file) 0) (drop (loaded_of file) m)
    ∙ omega (arith, length-replicate {A = ℕ} (loaded_of file) 0, length-drop (loaded_of file) m)

-- Loaded memory: hunks end to end, their stored words, zeros up to their sizes, and each target with its amount
-- (docs/FORMAT.md, "The program file").
use Rattle.std.specs.Prelude.{ℕ, ◌+◌, ◌-◌, ◌%◌, ◌^◌, List, [], ◌∷◌, ◌++◌, drop, replicate, slice_index}
use Rattle.words.specs.Word.{set_word, add_at}
use Rattle.words.specs.Shift.{Target, shift_all}
use Rattle.program.specs.declared.act.Act.{Act}
use Rattle.program.specs.declared.act.Act.TheVariants.{Quiet, Body, Store, Add}
use Rattle.program.specs.Header.{total_of, space_of}
use Rattle.program.specs.Acts.{acts_of, pass}
use Rattle.program.specs.Cursors.{place_of}

-- the bytes that the hunks take
abbrev pub loaded_of : List ℕ → ℕ
loaded_of file = place_of (space_of file) (total_of file)

-- memory with the word of an act stored, and of all acts
abbrev pub store_one : List ℕ → Act → List ℕ
store_one m Quiet = m
store_one m (Body h p k) = m
store_one m (Store p w) = set_word m p w
store_one m (Add p k b) = m

abbrev pub with_stored : List ℕ → List Act → List ℕ
with_stored m us = pass store_one m us

-- the words to relocate
abbrev pub target_one : Act → List Target → List Target
target_one Quiet ts = ts
target_one (Body h p k) ts = ts
target_one (Store p w) ts = ts
target_one (Add p k b) ts = record { loaded_at = p; key = k; byte = b } ∷ ts

unfoldable pub targets : List Act → List Target
targets [] = []
targets (a ∷ us) = target_one a (targets us)

abbrev pub targets_of : List ℕ → List Target
targets_of file = targets (acts_of file)

-- the amount of an act, if it asks for one
abbrev pub shift_one : List ℕ → (ℕ → ℕ) → Act → List ℕ
shift_one m f Quiet = m
shift_one m f (Body h p k) = m
shift_one m f (Store p w) = m
shift_one m f (Add p k b) = add_at m p (f k)

-- entry k of a list of amounts
abbrev pub amount_of : List ℕ → ℕ → ℕ
amount_of l k = slice_index l k

-- hunks with no amount added yet: zeros where nothing is stored, and what stands after the last hunk as it was
abbrev pub bodies_of : List ℕ → List ℕ → List ℕ
bodies_of file m = with_stored (replicate (loaded_of file) 0 ++ drop (loaded_of file) m) (acts_of file)

-- a load adds to each target the base of its hunk
abbrev pub load_of : List ℕ → List ℕ → List ℕ → List ℕ
load_of file bases m = shift_all (bodies_of file m) (targets_of file) (amount_of bases)

-- a move adds new minus old, modulo 2^32
abbrev pub moved : List ℕ → List ℕ → ℕ → ℕ
moved old new k = (amount_of new k + (2 ^ 32 - amount_of old k)) % 2 ^ 32

abbrev pub move_of : List ℕ → List ℕ → List ℕ → List ℕ → List ℕ
move_of file old new m = shift_all m (targets_of file) (moved old new)

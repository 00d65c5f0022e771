-- Two targets in one hunk less than 4 bytes apart are refused, at the offset that comes later in the file
-- (docs/FORMAT.md, "Bases and room"; refusal 42). Bytes in all of memory are compared: targets of two hunks are
-- never that near (`near_one_hunk`, proofs/OneHunk.antt).
use Rattle.std.specs.Prelude.{Result, Ok, Err, ℕ, ◌+◌, Bool, true, false, List, [], ◌∷◌, nat_lt}
use Rattle.words.specs.Shift.{Target}
use Rattle.answers.specs.Numbers as fault
use Rattle.answers.specs.Tests.{pick}
use Rattle.answers.specs.declared.Refusal.{Refusal}
use Rattle.answers.specs.Refusals.{refusal}
use Rattle.loader.specs.Memory.{targets_of}

abbrev pub near : ℕ → ℕ → Bool
near p q = pick (nat_lt p (q + 4)) (nat_lt q (p + 4)) false

unfoldable pub near_any : ℕ → List ℕ → Bool
near_any p [] = false
near_any p (q ∷ qs) = pick (near p q) true (near_any p qs)

-- the first target too near one of those before it
unfoldable pub clash : List ℕ → List Target → Result Unit Refusal
clash seen [] = Ok tt
clash seen (t ∷ ts) =
    pick (near_any t.loaded_at seen)
    (Err (refusal fault.near_targets t.byte))
    (clash (t.loaded_at ∷ seen) ts)

abbrev pub clash_of : List ℕ → Result Unit Refusal
clash_of file = clash [] (targets_of file)

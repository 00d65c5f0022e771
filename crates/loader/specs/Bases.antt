-- Bases: as many as hunks, multiples of 4, each hunk below 2^32, and no address shared with an earlier one
-- (docs/FORMAT.md, "Bases and room"; refusal 40).
use Rattle.std.specs.Prelude.{Result, Ok, Err, ℕ, zero, suc, ◌+◌, ◌*◌, ◌%◌, ◌^◌, Bool, true, false, List, length}
use Rattle.std.specs.Prelude.{◌==◌, nat_lt}
use Rattle.answers.specs.Numbers as fault
use Rattle.answers.specs.Tests.{pick}
use Rattle.answers.specs.declared.Refusal.{Refusal}
use Rattle.answers.specs.Refusals.{refusal}
use Rattle.program.specs.Header.{total_of, size_of}
use Rattle.loader.specs.Memory.{amount_of}

abbrev pub larger : ℕ → ℕ → ℕ
larger a b = pick (nat_lt a b) b a

abbrev pub smaller : ℕ → ℕ → ℕ
smaller a b = pick (nat_lt a b) a b

-- the first address after hunk i
abbrev pub top_of : List ℕ → List ℕ → ℕ → ℕ
top_of file bases i = amount_of bases i + 4 * size_of file i

-- hunks i and j share an address; one without bytes has none
abbrev pub overlap : List ℕ → List ℕ → ℕ → ℕ → Bool
overlap file bases i j =
    nat_lt (larger (amount_of bases i) (amount_of bases j)) (smaller (top_of file bases i) (top_of file bases j))

-- hunk i shares an address with one below n
unfoldable pub shares : List ℕ → List ℕ → ℕ → ℕ → Bool
shares file bases i zero = false
shares file bases i (suc n) = pick (overlap file bases i n) true (shares file bases i n)

unfoldable pub entry_bad : List ℕ → List ℕ → ℕ → Bool
entry_bad file bases i =
    pick (amount_of bases i % 4 == 0)
    (pick (nat_lt (2 ^ 32) (top_of file bases i)) true (shares file bases i i))
    true

-- n entries from i on; entries count from `from`
unfoldable pub bases_from : List ℕ → List ℕ → ℕ → ℕ → ℕ → Result Unit Refusal
bases_from file bases from i zero = Ok tt
bases_from file bases from i (suc n) =
    pick (entry_bad file bases i) (Err (refusal fault.bad_base (from + i))) (bases_from file bases from (i + 1) n)

unfoldable pub bases_fault : List ℕ → List ℕ → ℕ → Result Unit Refusal
bases_fault file bases from =
    pick (length bases == total_of file)
    (bases_from file bases from 0 (total_of file))
    (Err (refusal fault.bad_base from))

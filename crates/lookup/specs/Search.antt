-- One component in a directory: the chain of its name's slot is searched position by position. Each entry is tested,
-- counted, and compared; the first with an equal folded name ends the search (docs/FORMAT.md, "Paths and reads").
use Rattle.answers.specs.declared.Refusal.{Refusal}
use Rattle.std.specs.Prelude.{ℕ, zero, suc, ◌+◌, List, [], ◌∷◌, ltb, eqb, Result, Ok, Err, Option, Some, None}
use Rattle.answers.specs.Numbers as fault
use Rattle.answers.specs.Tests.{pick, must, tests}
use Rattle.answers.specs.Refusals.{refusal}
use Rattle.volume.specs.declared.disk.Disk.{Disk}
use Rattle.volume.specs.Disks.{chain_limit}
use Rattle.volume.specs.Blocks.{slot_word}
use Rattle.volume.specs.Names.{slot_of, same, name_of}
use Rattle.volume.specs.Rules.{entry_fault}
use Rattle.volume.specs.Law.{chain_key}
use Rattle.walk.specs.Nodes.{key_fault}
use Rattle.lookup.specs.declared.chain.Hit.{Hit}

-- what a search comes to: an entry with the name, none, or a refusal
abbrev pub Step : Type 0
Step = Result (Option Hit) Refusal

-- the entry k, n entries compared
abbrev pub hit : ℕ → ℕ → Hit
hit k n = record { key = k; compared = n }

-- the key at position p of the chain on which directory t would have a name; 0 after its end
abbrev pub position_key : Disk → List ℕ → ℕ → List ℕ → ℕ → ℕ
position_key d s t name p = chain_key s (slot_word s t (slot_of d name)) p

-- the tests of key k at position p of the chain of slot i: key range, chain limit, and the entry's own
unfoldable pub position_fault : Disk → List ℕ → ℕ → ℕ → ℕ → ℕ → ℕ
position_fault d s t i p k =
    tests (key_fault d k ∷ must (ltb p (chain_limit d)) fault.claimed_twice ∷ entry_fault d s k t i ∷ [])

-- at position p the key is k, and v is what its tests say; `on` is what the positions after it give
abbrev pub visit : Disk → List ℕ → List ℕ → ℕ → ℕ → ℕ → Step → Step
visit d s name p k v on =
    pick (eqb k 0) (Ok None)
    (pick (eqb v 0) (pick (same d (name_of s k) name) (Ok (Some (hit k (p + 1)))) on) (Err (refusal v k)))

-- n positions from position p on
unfoldable pub search_from : Disk → List ℕ → ℕ → List ℕ → ℕ → ℕ → Step
search_from d s t name zero p = Ok None
search_from d s t name (suc n) p =
    visit d s name p (position_key d s t name p)
    (position_fault d s t (slot_of d name) p (position_key d s t name p))
    (search_from d s t name n (p + 1))

-- the first position after the chain limit refuses or ends the chain, so no more are asked
unfoldable pub search_of : Disk → List ℕ → ℕ → List ℕ → Step
search_of d s t name = search_from d s t name (chain_limit d + 1) 0

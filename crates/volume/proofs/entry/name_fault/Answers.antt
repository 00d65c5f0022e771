-- `volume::entry::name_fault` meets its contract. Assumes nothing.
use Rattle.volume.proofs.Names.{name_short}
use Rattle.volume.proofs.Faults.{entry_unnamed, entry_strays, entry_hangs}
use borrow.Author.Rules.{rules}
use Rattle.volume.proofs.entry.name_fault.Goals as goal

pub slot_of-requires : goal.slot_of-requires
slot_of-requires c = search (rules, name_short) depth 7

pub returns-then-slot_of-slot : goal.returns-then-slot_of-slot
returns-then-slot_of-slot c = search entry_strays depth 7

pub returns-then-not-name_good : goal.returns-then-not-name_good
returns-then-not-name_good c = search entry_unnamed depth 7

pub returns : goal.returns
returns c = search entry_hangs depth 7

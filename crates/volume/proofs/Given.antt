-- Which numbers a block of each kind may give. Assumes nothing.
use Prim.Native.Nat.{ℕ}
use mathlib.Core.List.{List, [], ◌∷◌}
use Rattle.answers.specs.Numbers as fault
use Rattle.answers.specs.Members.{◌∈◌}
use Rattle.answers.proofs.Members.{listed}
use Rattle.volume.specs.declared.disk.Disk.{Disk}
use Rattle.volume.specs.Breaks.{RootBreaks, root_7, root_8, root_4, root_11, EntryBreaks, entry_7, entry_8}
use Rattle.volume.specs.Breaks.{entry_9, entry_10, entry_11, entry_12, HeaderBreaks, header_14, ListBreaks}
use Rattle.volume.specs.Breaks.{list_7, list_8, list_10, list_14, DataBreaks, data_7, data_8, data_15}

abbrev pub root_refusals : List ℕ
root_refusals = 4 ∷ 7 ∷ 8 ∷ 11 ∷ []

abbrev pub entry_refusals : List ℕ
entry_refusals = 7 ∷ 8 ∷ 9 ∷ 10 ∷ 11 ∷ 12 ∷ []

abbrev pub header_refusals : List ℕ
header_refusals = 14 ∷ []

abbrev pub list_refusals : List ℕ
list_refusals = 7 ∷ 8 ∷ 10 ∷ 14 ∷ []

abbrev pub data_refusals : List ℕ
data_refusals = 7 ∷ 8 ∷ 15 ∷ []

module _ {s : List ℕ} {v : ℕ} where
  pub root_number : {r : ℕ} → RootBreaks s r v → v ∈ root_refusals
  root_number (root_7 a e) = rw e (listed root_refusals fault.block_sum tt)
  root_number (root_8 a b e) = rw e (listed root_refusals fault.block_type tt)
  root_number (root_4 a b c e) = rw e (listed root_refusals fault.root_words tt)
  root_number (root_11 a b c n e) = rw e (listed root_refusals fault.bad_name tt)

  pub entry_number : {d : Disk} {k t i : ℕ} → EntryBreaks d s k t i v → v ∈ entry_refusals
  entry_number (entry_7 a e) = rw e (listed entry_refusals fault.block_sum tt)
  entry_number (entry_8 a b c e) = rw e (listed entry_refusals fault.block_type tt)
  entry_number (entry_9 a b e) = rw e (listed entry_refusals fault.link tt)
  entry_number (entry_10 a b c e) = rw e (listed entry_refusals fault.wrong_ties tt)
  entry_number (entry_11 a b c n e) = rw e (listed entry_refusals fault.bad_name tt)
  entry_number (entry_12 a b c n e) = rw e (listed entry_refusals fault.wrong_slot tt)

  pub header_number : {d : Disk} {h : ℕ} → HeaderBreaks d s h v → v ∈ header_refusals
  header_number (header_14 a e) = rw e (listed header_refusals fault.file_layout tt)

  pub list_number : {k h n : ℕ} → ListBreaks s k h n v → v ∈ list_refusals
  list_number (list_7 a e) = rw e (listed list_refusals fault.block_sum tt)
  list_number (list_8 a b e) = rw e (listed list_refusals fault.block_type tt)
  list_number (list_10 a b c e) = rw e (listed list_refusals fault.wrong_ties tt)
  list_number (list_14 a b c e) = rw e (listed list_refusals fault.file_layout tt)

  pub data_number : {d : Disk} {k h n named : ℕ} → DataBreaks d s k h n named v → v ∈ data_refusals
  data_number (data_7 a e) = rw e (listed data_refusals fault.block_sum tt)
  data_number (data_8 a b e) = rw e (listed data_refusals fault.block_type tt)
  data_number (data_15 a b c e) = rw e (listed data_refusals fault.data_layout tt)

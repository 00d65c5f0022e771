-- `loader::bases::bases_fault` meets its contract: the entries that are left decide. Assumes nothing.
use Rattle.std.proofs.Common.{ap, ◌∙◌}
use Rattle.std.specs.Prelude.{Err}
use Rattle.loader.proofs.Entries.{count_bad, count_good, entries_bad, entries_on, entries_end}
use Rattle.loader.proofs.bases.bases_fault.Goals as goal

pub returns-then-bases-t : goal.returns-then-bases-t
returns-then-bases-t c = ap Err c.at.ensures ∙ search count_bad

pub loop-i-init : goal.loop-i-init
loop-i-init c = search count_good

pub returns-then-entry_bad : goal.returns-then-entry_bad
returns-then-entry_bad c = ap Err c.at-then-entry_bad.ensures ∙ search entries_bad depth 7

pub loop-i-preserved : goal.loop-i-preserved
loop-i-preserved c = search entries_on depth 7

pub returns : goal.returns
returns c = search entries_end

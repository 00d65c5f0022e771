-- `audit::directories::is_twin` meets its contract. Assumes nothing.
use borrow.Author.Rules.{rules}
use Rattle.audit.proofs.Hanging.{twin_start, twin_holds, twin_short, twin_yes, twin_again, twin_no, known_holds}
use Rattle.audit.proofs.directories.is_twin.Goals as goal

pub loop-init : goal.loop-init
loop-init c = search twin_start

pub same_names-requires : goal.same_names-requires
same_names-requires c =
    ((search twin_holds depth 9, search known_holds depth 9), (search twin_short depth 9, search rules))

pub returns-then-same_names : goal.returns-then-same_names
returns-then-same_names c = search twin_yes depth 9

pub next_entry-e-requires : goal.next_entry-e-requires
next_entry-e-requires c = search twin_holds depth 9

pub loop-preserved : goal.loop-preserved
loop-preserved c = search twin_again depth 9

pub returns : goal.returns
returns c = search twin_no depth 7

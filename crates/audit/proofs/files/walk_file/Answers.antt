-- `audit::files::walk_file` meets its contract. Assumes nothing.
use borrow.Author.Rules.{rules}
use Rattle.walk.proofs.Loops.{header_ready}
use Rattle.audit.proofs.Walking.{handed}
use Rattle.audit.proofs.KeyBlocks.{file_stops, file_joins, lists_start, lists_end, lists_out, lists_again}
use Rattle.audit.proofs.files.walk_file.Goals as goal

pub walk_keys-requires : goal.walk_keys-requires
walk_keys-requires c = search (rules, header_ready) depth 9

pub returns-in_err-n : goal.returns-in_err-n
returns-in_err-n c = rw (handed _ _ c.from_residual.ensures.1) (search (file_stops, c.in_err-n.was) depth 9)

pub loop-b-init : goal.loop-b-init
loop-b-init c = search (lists_start, c.in_ok-n.was) depth 9

pub returns-in_err-n-2 : goal.returns-in_err-n-2
returns-in_err-n-2 c =
    rw (handed _ _ c.from_residual-in_err-n-2.ensures.1)
    (search (file_joins, lists_out, c.in_ok-n.was, c.in_err-n-2.was) depth 9)

pub loop-b-preserved : goal.loop-b-preserved
loop-b-preserved c = search (lists_again, c.in_ok-n-2.was) depth 9

pub returns : goal.returns
returns c = search (file_joins, lists_end, c.in_ok-n.was) depth 9

-- `lookup::find::find_on` meets its contract. Assumes nothing.
use borrow.Author.Rules.{rules}
use Rattle.std.proofs.lemmas.Result.{err_from_is_err_and}
use Rattle.lookup.proofs.Splits.{path_short}
use Rattle.lookup.proofs.Lookups.{find_long, find_form, find_tag, find_root}
use Rattle.lookup.proofs.find.find_on.Goals as goal

pub returns-then-image-image_bytes : goal.returns-then-image-image_bytes
returns-then-image-image_bytes c = rw c.at.ensures (find_long _ _ _ _ c.image_bytes.ensures c.if-image-image_bytes.true)

pub returns-in_err-path_fault : goal.returns-in_err-path_fault
returns-in_err-path_fault c =
    let p = err_from_is_err_and c.from_residual.result c.from_residual.ensures.1 in
    rw (p.1, p.2)
    (find_form _ _ _ _ c.image_bytes.ensures c.if-image-image_bytes.false _ c.path_fault.ensures _
    c.in_err-path_fault.was)

pub from_root-requires : goal.from_root-requires
from_root-requires c = ((search rules, search rules), search (path_short, c.in_ok-path_fault.was) depth 7)

pub returns-then-not-has_tag : goal.returns-then-not-has_tag
returns-then-not-has_tag c =
    rw c.at-then-not-has_tag.ensures
    (find_tag _ _ _ _ c.image_bytes.ensures c.if-image-image_bytes.false _ c.path_fault.ensures
    c.in_ok-path_fault.was _ c.has_tag.ensures c.if-not-has_tag.true)

pub returns : goal.returns
returns c = search (find_root, c.in_ok-path_fault.was) depth 7

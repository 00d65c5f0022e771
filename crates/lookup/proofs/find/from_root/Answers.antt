-- `lookup::find::from_root` meets its contract. Assumes nothing.
use Rattle.std.proofs.Common.{refl, sym}
use Rattle.std.specs.Prelude.{Err}
use borrow.Author.Tests.{eqb-true, eqb-false}
use Rattle.answers.proofs.Tests.{told_ok, told_err}
use Rattle.lookup.proofs.Lookups.{root_refused, root_empty, root_looks}
use Rattle.lookup.proofs.find.from_root.Goals as goal

pub returns-in-Err : goal.returns-in-Err
returns-in-Err c =
    rw c.at.ensures
    (root_refused _ _ _ _ c.in-Err.ensures _ c.root-root.ensures (told_err (Err c.in-Err.fault) refl))

pub returns-then-is_empty : goal.returns-then-is_empty
returns-then-is_empty c =
    root_empty _ _ _ _ c.root_fault.ensures _ c.root-root.ensures (told_ok _ c.in_default.is)
    (eqb-true _ _ (sym c.if-is_empty.ensures))

pub returns : goal.returns
returns c =
    root_looks _ _ _ _ c.root_fault.ensures _ c.root-root.ensures _ (told_ok _ c.in_default.is)
    (eqb-false _ _ (sym c.if-is_empty.ensures)) c.lookup.ensures

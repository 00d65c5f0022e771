-- `lookup::path::path_fault` meets its contract. Assumes nothing.
use Rattle.std.proofs.Common.{rules, tests, sym}
use Rattle.std.specs.Prelude.{Some, None}
use Rattle.std.proofs.lemmas.Iterator.{IsFirst-from_position}
use Rattle.std.proofs.lemmas.Iterator.Splits.{YieldsList-from_slice_split}
use borrow.Author.Tests.{eqb-true, eqb-false}
use Rattle.lookup.proofs.Splits.{Good, Bad, is_slash, path_long, path_empty, path_parts}
use Rattle.lookup.proofs.path.path_fault.Goals as goal

pub returns-then-path-gt-LONGEST_PATH : goal.returns-then-path-gt-LONGEST_PATH
returns-then-path-gt-LONGEST_PATH c = rw c.at.ensures (path_long _ c.if-path-gt-LONGEST_PATH.true)

pub returns-then-is_empty : goal.returns-then-is_empty
returns-then-is_empty c = path_empty _ c.if-path-gt-LONGEST_PATH.false (eqb-true _ _ (sym c.if-is_empty.ensures))

pub returns-in-Some : goal.returns-in-Some
returns-in-Some c =
    rw c.at-in-Some.ensures
    (path_parts _ c.if-path-gt-LONGEST_PATH.false (eqb-false _ _ (sym c.if-is_empty.ensures)) _
    (Some c.in-Some.component) c.in-Some.is
    (IsFirst-from_position _ _ c.position.result Bad Good c.position.ensures.ran
    (YieldsList-from_slice_split _ is_slash c.args.path.now c.split.ensures.rest c.split.ensures.done
    c.split.ensures.closure (λ x r q k. search (rules, tests))) (λ x q k. search (rules, tests))
    (λ x q k. search (rules, tests))))

pub returns-in-None : goal.returns-in-None
returns-in-None c =
    path_parts _ c.if-path-gt-LONGEST_PATH.false (eqb-false _ _ (sym c.if-is_empty.ensures)) _ None
    c.in-None.is
    (IsFirst-from_position _ _ c.position.result Bad Good c.position.ensures.ran
    (YieldsList-from_slice_split _ is_slash c.args.path.now c.split.ensures.rest c.split.ensures.done
    c.split.ensures.closure (λ x r q k. search (rules, tests))) (λ x q k. search (rules, tests))
    (λ x q k. search (rules, tests)))

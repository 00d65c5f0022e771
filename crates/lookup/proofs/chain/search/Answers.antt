-- `lookup::chain::search` meets its contract: what the entries passed leave is the search from here on. Assumes
-- nothing.
use native.Mathlib.Omega.{arith}
use mathlib.Core.Path.{refl}
use borrow.Author.Rules.{rules}
use Rattle.std.specs.Prelude.{Err}
use Rattle.answers.proofs.Tests.{told_ok, told_err}
use Rattle.lookup.proofs.Chains.{slot_below, starts, ends, faulty, held, named, falls, hits, goes}
use Rattle.lookup.proofs.chain.search.Goals as goal

pub word_of-key-requires : goal.word_of-key-requires
word_of-key-requires c = (omega (arith, slot_below _ _ _ c.slot-slot.ensures), search rules)

pub loop-key-init : goal.loop-key-init
loop-key-init c = search starts depth 7

pub returns-in-Err : goal.returns-in-Err
returns-in-Err c =
    rw c.at.ensures
    (faulty _ _ _ _ _ _ c.loop-key.invariant c.loop-key-test.true _ _ c.slot-slot.ensures c.in-Err.ensures
    (told_err (Err c.in-Err.fault) refl))

pub has_name-requires : goal.has_name-requires
has_name-requires c = (
  search (held, told_ok, c.in_default.is) depth 7,
  search (named, told_ok, c.in_default.is) depth 7,
)

pub returns-then-has_name : goal.returns-then-has_name
returns-then-has_name c = search (hits, told_ok, c.in_default.is) depth 7

pub word_of-key-requires-in-loop-key : goal.word_of-key-requires-in-loop-key
word_of-key-requires-in-loop-key c = (search rules, search (held, told_ok, c.in_default.is) depth 7)

pub loop-key-smaller : goal.loop-key-smaller
loop-key-smaller c = search (falls, told_ok, c.in_default.is) depth 7

pub loop-key-preserved : goal.loop-key-preserved
loop-key-preserved c = search (goes, told_ok, c.in_default.is) depth 7

pub returns : goal.returns
returns c = search ends depth 7

-- `lookup::find::lookup` meets its contract. Assumes nothing.
use Rattle.std.proofs.Common.{arith, rules, ◌∙◌, ap}
use Rattle.std.specs.Prelude.{Ok}
use Rattle.std.proofs.lemmas.Result.{err_from_is_err_and}
use Rattle.lookup.proofs.Lookups.{to_ended, to_fault, to_entry, to_used, to_more, searches, counts, lies, looks}
use Rattle.lookup.proofs.find.+lookup.Goals as goal

pub search-requires : goal.search-requires
search-requires t c = search searches depth 7

pub returns-in_err-hit : goal.returns-in_err-hit
returns-in_err-hit t c =
    let p = err_from_is_err_and c.from_residual.result c.from_residual.ensures.1 in
    rw (p.1, p.2) (to_fault _ _ _ _ _ _ _ c.first_slash-end.ensures _ c.search.ensures _ c.in_err-hit.was)

pub returns-in_default : goal.returns-in_default
returns-in_default t c =
    rw c.at.ensures
    (to_ended _ _ _ _ _ _ _ c.first_slash-end.ensures _ c.search.ensures (c.in_ok-hit.was ∙ ap Ok c.in_default.is))

pub overflow_add-all : goal.overflow_add-all
overflow_add-all t c =
    search (
      rules,
      counts _ _ _ _ _ _ _ c.requires c.first_slash-end.ensures _ _ c.search.ensures
          (c.in_ok-hit.was ∙ ap Ok c.in-Some.is),
    )

pub found_at-requires : goal.found_at-requires
found_at-requires t c =
    lies _ _ _ _ _ _ _ c.requires c.first_slash-end.ensures _ _ c.search.ensures (c.in_ok-hit.was ∙ ap Ok c.in-Some.is)

pub returns-then-end-path : goal.returns-then-end-path
returns-then-end-path t c =
    to_entry _ _ _ _ _ _ _ c.first_slash-end.ensures _ c.search.ensures _ (c.in_ok-hit.was ∙ ap Ok c.in-Some.is) _
    (omega (arith, c.if-end-path.true)) c.found_at.ensures

pub is_directory-requires : goal.is_directory-requires
is_directory-requires t c =
    lies _ _ _ _ _ _ _ c.requires c.first_slash-end.ensures _ _ c.search.ensures (c.in_ok-hit.was ∙ ap Ok c.in-Some.is)

pub returns-then-not-is_directory : goal.returns-then-not-is_directory
returns-then-not-is_directory t c =
    rw c.at-then-not-is_directory.ensures
    (to_used _ _ _ _ _ _ _ c.first_slash-end.ensures _ c.search.ensures _ (c.in_ok-hit.was ∙ ap Ok c.in-Some.is)
    (omega (arith, c.first_slash-end.ensures.within, c.if-end-path.false)) _ c.is_directory.ensures
    c.if-not-is_directory.true)

pub lookup-requires : goal.lookup-requires
lookup-requires t c = (
  search rules,
  looks _ _ _ _ _ _ _ c.requires c.first_slash-end.ensures _ _ c.search.ensures (c.in_ok-hit.was ∙ ap Ok c.in-Some.is)
      (omega (arith, c.first_slash-end.ensures.within, c.if-end-path.false)),
)

pub returns : goal.returns
returns t c =
    to_more _ _ _ _ _ _ _ c.first_slash-end.ensures _ c.search.ensures _ (c.in_ok-hit.was ∙ ap Ok c.in-Some.is)
    (omega (arith, c.first_slash-end.ensures.within, c.if-end-path.false)) _ c.is_directory.ensures _
    c.if-not-is_directory.false c.lookup.ensures

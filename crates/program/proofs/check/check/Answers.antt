-- `program::check::check` meets its contract. Assumes nothing.
use mathlib.Core.Path.{sym, ap, ◌∙◌}
use native.Mathlib.Omega.{arith}
use Rattle.std.specs.Prelude.{Err}
use Rattle.std.proofs.lemmas.Result.{err_from_is_err_and}
use Rattle.program.specs.Header.{heads}
use Rattle.program.proofs.AsNumbers.{checks}
use Rattle.program.proofs.Heads.{few_hunks, header_fits}
use Rattle.program.proofs.Walks.{check_empty, check_odd, check_first, check_second, check_hunks}
use Rattle.program.proofs.check.check.Goals as goal

pub returns-then-file-eq0 : goal.returns-then-file-eq0
returns-then-file-eq0 c = checks _ _ (search check_empty depth 7)

pub returns-then-file-ne0 : goal.returns-then-file-ne0
returns-then-file-ne0 c = checks _ _ (search check_odd depth 7)

pub returns-in_err-head_words : goal.returns-in_err-head_words
returns-in_err-head_words c =
    let p = err_from_is_err_and c.from_residual.result c.from_residual.ensures.1 in
    checks _ _ (p.1 ∙ ap Err p.2 ∙ check_first _ (search) (omega arith) _ c.head_words.ensures _
    c.in_err-head_words.was)

pub total-requires : goal.total-requires
total-requires c = omega (arith, (few_hunks _ (sym c.head_words.ensures ∙ c.in_ok-head_words.was)).0)

pub returns-in_err-head_words-2 : goal.returns-in_err-head_words-2
returns-in_err-head_words-2 c =
    let r = c.from_residual-in_err-head_words-2 in
    let p = err_from_is_err_and r.result r.ensures.1 in
    checks _ _ (p.1 ∙ ap Err p.2 ∙ check_second _ (search) (omega arith) _ c.head_words.ensures c.in_ok-head_words.was _
    c.total.ensures _ c.head_words-2.ensures _ c.in_err-head_words-2.was)

pub hunks-requires : goal.hunks-requires
hunks-requires c = (
  header_fits _ (sym c.head_words.ensures ∙ c.in_ok-head_words.was)
      (ap (heads c.args.file.now 5) (sym c.total.ensures) ∙ sym c.head_words-2.ensures ∙ c.in_ok-head_words-2.was),
  search,
)

pub returns : goal.returns
returns c =
    checks _ _ (check_hunks _ (search) (omega arith) _ c.head_words.ensures c.in_ok-head_words.was _ c.total.ensures _
    c.head_words-2.ensures c.in_ok-head_words-2.was _ c.hunks.ensures)

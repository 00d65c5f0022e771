-- `program::header::head_words` meets its contract: the words that are left decide. Assumes nothing.
use Prim.Native.Nat.{◌+◌, ◌*◌}
use mathlib.Core.Path.{◌≡◌, sym, ap, ◌∙◌}
use native.Mathlib.Omega.{arith}
use Rattle.std.specs.Prelude.{Err}
use Rattle.std.proofs.Common.{rules}
use Rattle.std.proofs.lemmas.Result.{err_from_is_err_and}
use Rattle.answers.specs.Refusals.{refused_at}
use Rattle.program.specs.Header.{heads}
use Rattle.program.proofs.Mapped.{mapped_ok, mapped_err}
use Rattle.program.proofs.Heads.{heads_short, heads_bad, heads_on, heads_none}
use Rattle.program.proofs.header.head_words.Goals as goal

pub loop-i-init : goal.loop-i-init
loop-i-init c = ap (heads c.args.file.now c.args.from) (omega arith)

pub returns-then-file-i : goal.returns-then-file-i
returns-then-file-i c =
    ap Err c.at.ensures ∙ sym (c.loop-i.invariant ∙ heads_short _ _ _ (omega arith) c.if-file-i.true)

pub returns-in_err-map_err : goal.returns-in_err-map_err
returns-in_err-map_err c =
    let p = mapped_err _ _ _ c.map_err.ensures.cases c.in_err-map_err.was in
    let q = err_from_is_err_and c.from_residual.result c.from_residual.ensures.1 in
    let z : q.0 ≡ refused_at p.0 (4 * c.loop-i.i-counter) = q.2 ∙ (let m = p.2 in search rules) in
    q.1 ∙ ap Err z ∙ sym (c.loop-i.invariant
    ∙ heads_bad _ _ _ _ _ (omega arith) (omega arith) c.word.ensures c.head_fault.ensures p.1)

pub loop-i-preserved : goal.loop-i-preserved
loop-i-preserved c =
    c.loop-i.invariant
    ∙ heads_on _ _ _ _ _ (omega arith) (omega arith) c.word.ensures c.head_fault.ensures
    (mapped_ok _ _ _ c.map_err.ensures.cases c.in_ok-map_err.was)
    ∙ ap (heads c.args.file.now (c.loop-i.i-counter + 1)) (omega arith)

pub returns : goal.returns
returns c = sym (c.loop-i.invariant ∙ heads_none _ _ _ (omega arith))

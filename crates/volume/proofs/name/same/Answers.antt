-- `volume::name::same` meets its contract: up to the byte that is compared the names are alike. Assumes nothing.
use Rattle.std.proofs.Common.{arith, sym, ◌∙◌}
use Rattle.std.proofs.lemmas.Slice.Zip.{zip_turn, zip_end}
use borrow.Author.Tests.{eqb-false}
use Rattle.volume.proofs.Names.{same_long, same_pairs, same_but}
use Rattle.volume.proofs.name.same.Goals as goal

pub returns-then-xs-ys : goal.returns-then-xs-ys
returns-then-xs-ys c = same_long _ _ _ c.if-xs-ys.true

pub returns-then-not-alike : goal.returns-then-not-alike
returns-then-not-alike c =
    let t = zip_turn c.args.xs.now c.args.ys.now c.loop-x.yielded c.into_iter-x-iterator.result c.loop-x.x-iterator
    c.next.new.self c.next.result (cc) (cc) c.loop-x.yielded_by _ c.in-Some.is c.next.ensures.steps in
    same_but _ _ _ _ t.0 t.1 (λ e. eqb-false _ _ (sym c.alike.ensures ∙ c.if-not-alike.true)
    (rw (t.2 0, t.3 0) e))

pub returns : goal.returns
returns c =
    let e = zip_end c.args.xs.now c.args.ys.now c.loop-x.yielded c.into_iter-x-iterator.result c.loop-x.x-iterator
    c.next.new.self c.next.result (cc) (cc) c.loop-x.yielded_by c.in-None.is c.next.ensures.steps in
    same_pairs _ _ _ c.if-xs-ys.false (λ k p. c.loop-x.invariant k (omega (arith, e)))

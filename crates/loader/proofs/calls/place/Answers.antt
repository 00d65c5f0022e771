-- `loader::calls::place` meets its contract. Assumes nothing.
use Rattle.std.proofs.Common.{ℕ, ◌++◌, drop, replicate, ap, ◌∙◌, arith, length-take-le}
use Rattle.loader.proofs.Calling.{load_writes, move_writes}
use Rattle.loader.proofs.calls.place.Goals as goal
use Rattle.loader.proofs.calls.place.Goals.{in-None, in-Some}

pub returns : goal.returns
returns c =
    elim c.match-old.branch [
      | in-None w ↦
          let n : ℕ = c.args.n in
          let front = length-take-le n c.args.memory.now (omega (arith, c.requires.1.fits)) in
          rw w.in-None.is
          (load_writes _ _ _ _ _ _ _ _ n c.requires.0
          (ap (λ l. l ++ drop n c.args.memory.now)
          (w.fill.ensures.after (λ y e. e) ∙ ap (λ (k : ℕ). replicate k 0) front))
          w.store_all.ensures (w.memory-is ∙ w.add_all.ensures) c.write_all.ensures)
      | in-Some w ↦
          rw w.in-Some.is
          (move_writes _ _ _ _ _ _ _ _ _ c.requires.1 w.differences.ensures
          (w.memory-is ∙ w.add_all-in-Some.ensures) c.write_all.ensures)
    ]

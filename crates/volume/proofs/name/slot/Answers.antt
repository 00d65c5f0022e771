-- `volume::name::slot` meets its contract: the hash goes on from h over what is left of the name. Assumes nothing.
use Rattle.std.proofs.Common.{◌∙◌, refl, arith}
use Rattle.volume.proofs.Names.{hash_step, slot_is}
use Rattle.volume.proofs.name.slot.Goals as goal

pub loop-b-init : goal.loop-b-init
loop-b-init c = record { small = omega arith; goes_on = refl }

pub loop-b-preserved : goal.loop-b-preserved
loop-b-preserved c = record {
  small = omega arith;
  goes_on =
      rw (c.from.ensures, c.fold.ensures)
      (hash_step _ _ c.loop-b-test.true c.args.disk c.loop-b.h ∙ c.loop-b.invariant.goes_on);
}

pub returns : goal.returns
returns c = slot_is _ _ _ _ c.loop-b-test.false c.loop-b.invariant.goes_on

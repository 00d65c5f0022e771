-- `volume::name::name_good` meets its contract. Assumes nothing.
use Rattle.std.proofs.Common.{◌∙◌, ap}
use Rattle.volume.specs.Names.{allowed}
use Rattle.volume.proofs.Names.{name_not, name_is}
use Rattle.volume.proofs.name.name_good.Goals as goal

pub returns-then-n-lt1 : goal.returns-then-n-lt1
returns-then-n-lt1 c = name_not _ _ _ c.name_length-n.ensures.0 c.then-n-lt1.either

pub returns : goal.returns
returns c =
    name_is _ _ _ c.name_length-n.ensures.0 _ c.if-n-lt1.false c.if-n-gt-LONGEST.false
    (c.is_allowed.ensures ∙ ap allowed c.name_of.ensures)

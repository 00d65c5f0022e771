-- The numbers of each disk are those that docs/FORMAT.md writes. Assumes nothing.
use mathlib.Core.Path.{refl}
use Rattle.answers.specs.Tests.{pick}
use Rattle.volume.specs.Disks.{is_old, folds_accents, data_bytes, data_start}
use Rattle.volume.specs.Numerals.{numerals, NumeralsHold}

pub numerals_hold : NumeralsHold
unfolding numerals is_old folds_accents data_bytes data_start pick
numerals_hold = refl

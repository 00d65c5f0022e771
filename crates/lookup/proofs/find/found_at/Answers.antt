-- `lookup::find::found_at` meets its contract. Assumes nothing.
use Rattle.std.proofs.Common.{refl}
use Rattle.answers.specs.Tests.{pick}
use Rattle.lookup.proofs.find.found_at.Goals as goal

pub returns-then-is_directory : goal.returns-then-is_directory
unfolding pick
returns-then-is_directory c = rw (← c.is_directory.ensures, c.if-is_directory.true) refl

pub returns : goal.returns
unfolding pick
returns c = rw (← c.is_directory.ensures, c.if-is_directory.false, c.word_of-size.ensures) refl

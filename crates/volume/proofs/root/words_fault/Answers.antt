-- `volume::root::words_fault` meets its contract. Assumes nothing.
use Rattle.answers.proofs.Tests.{go, stop, must_eq, must_ne}
use Rattle.volume.proofs.root.words_fault.Goals as goal

pub returns-then-word_of-ne0 : goal.returns-then-word_of-ne0
returns-then-word_of-ne0 c = search (tt, go, stop, must_eq, must_ne) depth 12 fits 5000

pub returns-then-word_of-ne0-2 : goal.returns-then-word_of-ne0-2
returns-then-word_of-ne0-2 c = search (tt, go, stop, must_eq, must_ne) depth 12 fits 5000

pub returns-then-word_of : goal.returns-then-word_of
returns-then-word_of c = search (tt, go, stop, must_eq, must_ne) depth 12 fits 5000

pub returns-then-word_of-ne0-3 : goal.returns-then-word_of-ne0-3
returns-then-word_of-ne0-3 c = search (tt, go, stop, must_eq, must_ne) depth 12 fits 5000

pub returns-then-word_of-ne0-4 : goal.returns-then-word_of-ne0-4
returns-then-word_of-ne0-4 c = search (tt, go, stop, must_eq, must_ne) depth 12 fits 5000

pub returns-then-word_of-ne0-5 : goal.returns-then-word_of-ne0-5
returns-then-word_of-ne0-5 c = search (tt, go, stop, must_eq, must_ne) depth 12 fits 5000

pub returns-then-word_of-ne0-6 : goal.returns-then-word_of-ne0-6
returns-then-word_of-ne0-6 c = search (tt, go, stop, must_eq, must_ne) depth 12 fits 5000

pub returns : goal.returns
returns c = search (tt, go, stop, must_eq, must_ne) depth 12 fits 5000

-- `volume::bitmap::is_free` meets its contract. Assumes nothing.
use Rattle.volume.specs.Bitmap.{is_free}
use Rattle.volume.proofs.bitmap.is_free.Goals as goal

pub returns : goal.returns
unfolding is_free
returns c = rw (c.word_of-w.ensures, c.of-bit.ensures.0, c.of-bit.ensures.1)

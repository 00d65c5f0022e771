-- `reading::copy::copy_file` meets its contract: the first `done` bytes are copied. Assumes nothing.
use borrow.Author.Rules.{rules}
use Rattle.reading.proofs.Turns.{none, way, starts, ends, listed_few, listed_held, byte_fits}
use Rattle.reading.proofs.Turns.{done_fits, from_inside, from_fits, goes}
use Rattle.reading.proofs.copy.copy_file.Goals as goal

pub returns-then-count-eq0 : goal.returns-then-count-eq0
returns-then-count-eq0 c = search none depth 7

pub seek-at-requires : goal.seek-at-requires
seek-at-requires c = search way depth 7

pub loop-done-init : goal.loop-done-init
loop-done-init c = search starts depth 7

pub key_of-key-requires : goal.key_of-key-requires
key_of-key-requires c = (search listed_few depth 7, search listed_held depth 7)

pub overflow_add-from : goal.overflow_add-from
overflow_add-from c = search (rules, byte_fits) depth 7

pub overflow_add-from-in-loop-done : goal.overflow_add-from-in-loop-done
overflow_add-from-in-loop-done c = search (rules, done_fits, byte_fits, from_fits) depth 7

pub slice_bounds-copy-end : goal.slice_bounds-copy-end
slice_bounds-copy-end c = search (rules, from_inside) depth 7

pub next-at-requires : goal.next-at-requires
next-at-requires c = (search listed_few depth 7, search listed_held depth 7)

pub loop-done-preserved : goal.loop-done-preserved
loop-done-preserved c = search goes depth 9

pub returns : goal.returns
returns c = search ends depth 7

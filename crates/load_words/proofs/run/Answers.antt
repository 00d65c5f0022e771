-- `load_words::run` meets its contract. What is accepted fits the memory.
use Rattle.std.proofs.Common.{rules}
use Rattle.load_words.proofs.Parts.{fits}
use Rattle.load_words.proofs.run.Goals as goal

pub slice_bounds-memory-end : goal.slice_bounds-memory-end
slice_bounds-memory-end g c = search (rules, fits) depth 7

pub slice_bounds-words-end : goal.slice_bounds-words-end
slice_bounds-words-end g c = search (rules, fits) depth 7

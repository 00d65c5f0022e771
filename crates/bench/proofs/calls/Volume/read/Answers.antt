-- `bench::calls::Volume::read` meets its contract. What is read fits the output.
use Rattle.std.proofs.Common.{rules}
use Rattle.bench.proofs.Lent.{read_fits}
use Rattle.bench.proofs.calls.Volume.read.Goals as goal

pub slice_bounds-result-end : goal.slice_bounds-result-end
slice_bounds-result-end c = search (rules, read_fits) depth 7

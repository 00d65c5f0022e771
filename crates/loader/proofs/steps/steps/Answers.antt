-- `loader::steps::steps` meets its contract. Assumes nothing.
use Rattle.program.proofs.Walks.{reads_start}
use Rattle.loader.proofs.steps.steps.Goals as goal

pub returns-clause-reads : goal.returns-clause-reads
returns-clause-reads c = search reads_start depth 7

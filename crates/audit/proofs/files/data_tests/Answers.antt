-- `audit::files::data_tests` meets its contract. Assumes nothing.
use Rattle.audit.proofs.Meeting.{data_plain}
use Rattle.audit.proofs.files.data_tests.Goals as goal

pub returns : goal.returns
returns c = search data_plain depth 7

-- `audit::bitmap::bit_wrong` meets its contract. Assumes nothing.
use Rattle.audit.proofs.Mapping.{bit_is}
use Rattle.audit.proofs.bitmap.bit_wrong.Goals as goal

pub returns : goal.returns
returns c = bit_is c.args.free c.args.byte

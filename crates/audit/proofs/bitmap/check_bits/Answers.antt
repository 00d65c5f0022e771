-- `audit::bitmap::check_bits` meets its contract. Assumes nothing.
use Rattle.std.proofs.Common.{rules}
use Rattle.audit.proofs.Mapping.{bits_start, bits_few, bits_wrong, bits_again, bits_end}
use Rattle.audit.proofs.bitmap.check_bits.Goals as goal

pub loop-key-init : goal.loop-key-init
loop-key-init c = search bits_start depth 9

pub returns-then-bit_wrong : goal.returns-then-bit_wrong
returns-then-bit_wrong c = rw c.at.ensures (search bits_wrong depth 9)

pub overflow_add-free : goal.overflow_add-free
overflow_add-free c = rw c.from-free.ensures (search (bits_few, rules) depth 9)

pub loop-key-preserved : goal.loop-key-preserved
loop-key-preserved c = rw c.from-free.ensures (search bits_again depth 9)

pub returns : goal.returns
returns c = search bits_end depth 9

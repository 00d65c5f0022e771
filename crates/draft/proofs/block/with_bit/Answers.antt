-- `draft::block::with_bit` meets its contract. Assumes nothing.
use Rattle.draft.proofs.Bits.{bit_on, bit_fits, bit_is_on, bit_is_off, bit_below, bit_off}
use Rattle.draft.proofs.block.with_bit.Goals as goal

pub overflow_add-result : goal.overflow_add-result
overflow_add-result c = search bit_fits depth 7

pub returns-then-old-eq0 : goal.returns-then-old-eq0
returns-then-old-eq0 c = search bit_on depth 7

pub returns-then-one : goal.returns-then-one
returns-then-one c = search bit_is_on depth 7

pub returns-then-old-eq0-2 : goal.returns-then-old-eq0-2
returns-then-old-eq0-2 c = search bit_is_off depth 7

pub overflow_sub-result : goal.overflow_sub-result
overflow_sub-result c = search bit_below depth 7

pub returns : goal.returns
returns c = search bit_off depth 7

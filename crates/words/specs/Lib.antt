-- What the contracts of `words` cite.
-- a word at a byte: read, stored, added to
pub mod Word
-- the sum of a block's words
pub mod Sum
-- what `block_sum` adds up in place of words
pub mod Lanes
-- amounts added to many words
pub mod Shift

-- Proofs of the code that makes writes.

-- a block copied byte by byte
pub mod Copies
-- a block's sum mended
pub mod Sums
-- a bit changed
pub mod Bits
-- a block as the writes before leave it
pub mod Fetched

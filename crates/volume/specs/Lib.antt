-- What the contracts of `volume` cite, and the law of a volume. To read the law: Disks, Blocks, Names, Files, Bitmap,
-- References, Law.

-- a disk's own numbers
pub mod Disks
-- a block and its words
pub mod Blocks
-- names, folding, hash
pub mod Names
-- a file's size, its list blocks and its data keys
pub mod Files
-- the bitmap's bit of a block
pub mod Bitmap
-- what may be known of sums before blocks are met
pub mod Sums
-- which block refers to which
pub mod References
-- the law of a volume
pub mod Law
-- the tests of a block of each kind, in order
pub mod Rules
-- what each number says of a block, in the law's words
pub mod Breaks
-- the worked cases
pub mod Stars
-- the numbers of each disk, as docs/FORMAT.md writes them
pub mod Numerals

-- What the contracts of `reading` cite. To read what a read answers and leaves: Bytes, FileTests, Reads, Outcomes.
-- a file's bytes, and what a read copies of them
pub mod Bytes
-- the tests of a file's blocks
pub mod FileTests
-- a read's answer, and the output after it
pub mod Reads
-- what each answer says
pub mod Outcomes
-- what the parts of the code ask and promise
pub mod Parts

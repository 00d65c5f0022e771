-- Laws that the code of the audit is proved by, and what an audit says of an image.
-- claims, and blocks that are met
pub mod Meeting
-- stretches of the walk
pub mod Walking
-- the walk through a file
pub mod KeyBlocks
-- the walk through a directory
pub mod Hanging
-- the bitmap against the claims
pub mod Mapping
-- the audit's answer, and what it leaves
pub mod Auditing
-- the bits are right, or there is a lowest that is wrong
pub mod Bitmaps
-- the numbers of refusals
pub mod Numbers
-- an answer taken apart, test by test
pub mod Answers
-- what an accepted audit says: `accepted_exactly`, `accepted_claims`, `accepted_report`; and `audit_determined`
pub mod Accepting
-- what a refused audit says: `refused_exactly`, each number by itself, and `refused_number`
pub mod Refusing
-- the answer as numbers: `number_listed`, `zero_exactly`
pub mod AsNumbers

-- Laws that the code of `reading` is proved by, and what a read says of a file.
-- the tests of a file's blocks
pub mod Testing
-- what it says of a file that its blocks pass
pub mod Tested
-- parts of lists
pub mod Parts
-- where a file's keys are listed
pub mod Listing
-- a file's bytes
pub mod Contents
-- the turns of copying
pub mod Turns
-- a read, and that outcomes are determined
pub mod Readings
-- `read_exactly`, `read_output`: what it says that a read gives bytes
pub mod Answers
-- `passes_tested`, `tested_exactly`: a file passes if and only if it is as the law says, its blocks in range with sum 0
pub mod Passing
-- where each block of a file stands in the order of its tests
pub mod Order
-- `refused_exactly`: each refusal exactly then
pub mod Refusing
-- `tree_file_passes`, `tree_read_whole`, `tree_read_answers`: reads in a tree
pub mod OnTrees
-- the answer as numbers: `number_listed`, `zero_exactly`
pub mod AsNumbers

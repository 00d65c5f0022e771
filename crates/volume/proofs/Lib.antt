-- Laws of what specs/ defines, for this crate and those above it.
-- a disk's numbers, and a file's
pub mod Sizes
-- boot tags: the kind of an image
pub mod Tags
-- the disk that a call takes an image for
pub mod Disks
-- how many data keys a file has
pub mod Keys
-- sums that are known by a bitmap block
pub mod Summing
-- the rule of a table, by one test over it
pub mod Tables
-- names, folding and slots
pub mod Names
-- the tests of a block, part by part
pub mod Faults
-- tests that pass, and tests in order
pub mod Checks
-- a block passes its tests if and only if it is as the law says, and gives a number if and only if it breaks the law
-- as that number says
pub mod Breaks
-- what a block that passes is, part by part
pub mod Passes
-- the starred cases hold
pub mod Stars
-- the numbers of each disk
pub mod Numerals
-- which numbers the tests of each kind of block give
pub mod Given

-- What tests and refusals are.
-- lists of tests
pub mod Tests
-- refusals, as definitions write them
pub mod Refusals
-- answers as numbers
pub mod Answers
-- the numbers of refusals, by name
pub mod Numbers
-- what a list holds
pub mod Members
-- lines of a text
pub mod Lines

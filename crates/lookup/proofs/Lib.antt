-- Laws of what specs/ defines, and the theorems.
-- components and the form of a path
pub mod Splits
-- the search of one chain
pub mod Chains
-- what a search says, place by place
pub mod Positions
-- a lookup at its first component
pub mod Lookups
-- what a lookup says, component by component
pub mod Trails
-- what every answer says
pub mod Deciding
-- each number exactly then
pub mod Refusing
-- `found_few`: a lookup compares at most as many entries for each component as a chain may have
pub mod Compared
-- `chain_few`: no chain of a tree is longer than the limit
pub mod Rooms
-- `tree_answers`: in a tree a lookup gives an answer, 18, 19 or 20
pub mod OnTrees
-- names joined by '/'
pub mod Joins
-- `reached_lies`, `reached_found`: every reached entry of a tree is found by its path
pub mod Bridge
-- the answer as numbers: `number_listed`, `zero_exactly`
pub mod AsNumbers

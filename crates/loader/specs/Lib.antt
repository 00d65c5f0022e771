-- What the contracts of `loader` cite. To read what a load and a move do: Pages and Verdicts, in the terms of the
-- page; Memory, Table, Bases, Near and Calls, as the contracts say it.

-- loaded memory
pub mod Memory
-- the records of the hunks
pub mod Table
-- lists of bases
pub mod Bases
-- targets that are too near
pub mod Near
-- what the calls answer, and what they leave
pub mod Calls
-- a load in the terms of the page
pub mod Pages
-- when a call is accepted, and when 40, 41 and 42 are given
pub mod Verdicts
-- what the laws of moving speak of
pub mod Moving
-- the steps of a pass over a file
pub mod Steps
-- what the parts of the code ask and tell each other
pub mod Parts

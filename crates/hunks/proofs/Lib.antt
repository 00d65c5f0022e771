-- Laws of what specs/ defines, and the theorems.
-- tables that are filled record by record
pub mod Filling
-- what the core hands back, and what the calls leave
pub mod Handing
-- a table as its numbers
pub mod Numbering
-- the laws of moving
pub mod Moving
-- the contracts decide
pub mod Deciding
-- tables record by record, and in the page's terms
pub mod PageTables
-- an accepted call in the page's terms
pub mod PageCalls
-- the answer as numbers
pub mod AsNumbers

-- What the contracts of `hunks` cite. To read what a load and a move do: Records, Calls.
-- hunk tables as structs
pub mod Records
-- what the calls answer, and what they leave
pub mod Calls
-- a table in the terms of the page
pub mod Pages
-- what the parts of the code hand on
pub mod Parts

-- Laws of what specs/ defines, and the theorems.
-- what an act does, and that it lies inside
pub mod Acts
-- runs of stored words
pub mod StoredRuns
-- marks in the work area
pub mod Marking
-- lists of bases
pub mod Entries
-- loops that write numbers
pub mod Copies
-- what the calls answer
pub mod Answering
-- all that a file asks for lies inside
pub mod Inside
-- the calls leave what they promise
pub mod Calling
-- the laws of moving
pub mod Moving
-- the contracts decide
pub mod Deciding
-- tests one after the other
pub mod Refusing
-- the tests of a call that is lent any number of lists of bases
pub mod Lists
-- choices between a fault and the next test
pub mod Picks
-- what 40, 41 and 42 say: bases, room, near targets
pub mod BadBases
pub mod Rooms
pub mod NearTargets
-- what a file asks for, in the page's terms
pub mod PageActs
-- what a load and a move do, in the page's terms
pub mod PageLoads
-- each target at its offset in its hunk; targets that are near are of one hunk
pub mod OneHunk
-- 40 and 42 in the page's terms
pub mod PageBases
pub mod PageNear
-- when a call is accepted, and when each of 40, 41 and 42 is given, in the page's terms
pub mod PageVerdicts
-- the answers as numbers: `load_number`, `load_zero_exactly` and the same of a move
pub mod Numbers
-- what becomes of each target and of every other byte
pub mod Targets
-- an accepted call in the page's terms
pub mod PageCalls
-- the steps of a pass over a file
pub mod Stepping

-- What the contracts of `program` cite. To read what a program file is: Page.
-- block types, limits and kinds of memory, by name
pub mod Types
-- what the header says of a hunk
pub mod Spaces
-- a program file as the page shows it: hunks, written out to words
pub mod Page
-- a hunk that is begun, and which word may not come next
pub mod Begun
-- the header's words
pub mod Header
-- the reader, a word at a time
pub mod Reader
-- the check of a whole file
pub mod Check
-- what a word asks of memory and table
pub mod Acts
-- what holds while a file is read
pub mod Cursors
-- words after which a pass may go on
pub mod Runs
-- what a refusal of the check says
pub mod Verdicts

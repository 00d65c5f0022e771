-- Laws of what specs/ defines, for this crate and those above it.
-- answers that differ
pub mod Answers
-- spaces, their words and their tests
pub mod Spaces
-- the header's words, and its tests both ways
pub mod Heading
-- the header in code, and what holds after it
pub mod Heads
-- what holds of the cursor while a file is read
pub mod CursorsFit
-- the walk over the words, and the whole check
pub mod Walks
-- what a match on the reader's mode leaves
pub mod Modes
-- what a file asks for, word by word, and passes over it
pub mod Passes
-- hunks written out are taken, and accepted
pub mod Taken
-- a refusal by the reader, word by word
pub mod Coming
-- the reader comes to where a hunk is begun
pub mod Beginnings
-- what stands before a byte that the reader comes to
pub mod Standing
-- where the walk over the words stops
pub mod Stops
-- a program file is what the page says
pub mod Pages
-- words determine the hunks
pub mod Unique
-- what each refusal of the check says
pub mod Refusing
-- words after which a pass may go on
pub mod Runs
-- the answer as numbers: `number_listed`, `zero_exactly`
pub mod AsNumbers
-- a choice by a test of two numbers
pub mod Choices
-- a fault said of a place
pub mod Mapped

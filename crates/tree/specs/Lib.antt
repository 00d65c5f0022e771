-- The tree of a volume while blocks of it are written one by one: a delete and a repair, cut off at any moment.

-- the words that link
pub mod Links
-- two images with the same tree
pub mod SameTree
-- the word that points to an entry, and an image in which it points elsewhere
pub mod Pointers
-- what an entry has for itself
pub mod OwnBlocks
-- the new bitmap block of a delete and of a repair
pub mod Pages
-- a repair as two writes
pub mod Repairs
-- a delete as four writes
pub mod Deletes

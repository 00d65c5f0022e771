-- Laws of a volume's tree.

-- what a block refers to, where two images are alike
pub mod Refers
-- the root, an entry and a file carried over to an image that is alike
pub mod Entries
-- the law carried over from one image to another: an entry, a file, a directory, the tree
pub mod Carrying
-- two images with the same tree
pub mod SameTrees
-- what a find sees of an entry stays where its block is alike but for links
pub mod Kept
-- a block's references around one pointer
pub mod Splits
-- a pointer moved on to the entry's successor cuts the entry out
pub mod Cuts
-- one pointer has changed: what stays alike
pub mod Changed
-- without a leaf a tree is a tree
pub mod Deleting
-- the word that points to an entry
pub mod Finding
-- the root marked, the bitmap block replaced, a pointer moved: one write each
pub mod Marking
-- a repair, and a repair cut off
pub mod Repairing
-- what a leaf has for itself
pub mod Owning
-- a delete cut off after any of its writes
pub mod DeleteCuts
-- a file's own blocks
pub mod OwnBlocks
-- a leaf's own blocks as a list, no key twice
pub mod OwnKeys
-- the new bitmap block of a delete and of a repair
pub mod Pages

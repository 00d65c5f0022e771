-- What a cut leaves (`cut_parted`, `cut_reached`), and back (`join_owned`, `join_reached`).

-- lists in which no key stands twice
pub mod Lists
-- owned once, said of lists and not of places; a reached key has one node, and nothing lies below itself
pub mod Singles
-- from the graph with the entry to the one without
pub mod Cutting
-- from the graph without the entry to the one with it
pub mod Joining
-- two graphs whose reached nodes have the same references
pub mod Agreeing

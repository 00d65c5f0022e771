-- A volume as a graph to walk.
-- what is met, in order, with its tests and its counts
pub mod Nodes
-- what an accepted walk hands back
pub mod Reports
-- what a refusal means
pub mod Refusals
-- a block that lists keys, and the next
pub mod KeyBlocks

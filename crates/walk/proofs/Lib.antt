-- That the walk over a volume decides its law.

-- facts on the positions of a list
pub mod Lists
-- what stands among the nodes that a node leads to
pub mod Nodes
-- a node passes its tests if and only if its block is as the law says
pub mod Passes
-- `accepted_lawful`: the walk accepts if and only if every node passes, and every block is owned once
pub mod Accepts
-- positions of a chain, and names that stand twice on one
pub mod Chains
-- a file as the walk meets it: `file_spreads`
pub mod Spreads
-- the nodes that a block of a file leads to
pub mod KeyRuns
-- the link to the next list block
pub mod Links
-- the loops over a file's keys and list blocks
pub mod Loops
-- a directory whose chains are reached, and pass, is as the law says
pub mod Directories
-- `passes_tree`: if every node passes, the tree is as its law says
pub mod Trees
-- no key stands twice on a chain of a volume whose blocks are owned once
pub mod Positions
-- what a node's context says, kept from node to node
pub mod Coherent
-- `tree_passes`: if the tree is as its law says, every node passes
pub mod Lawful
-- `tree_decided`, `volume_decided`: what the walk decides
pub mod Decides
-- what is met by way of nodes that pass, and where it stands
pub mod Standing
-- counting references of a kind
pub mod Tallies
-- `walked_report`: what an accepted walk hands back
pub mod Reports
-- `refused_first`: when a refusal is given
pub mod Refuses
-- `refused_cause`: what it says of the volume
pub mod Causes
-- `cause_breaks`: what it says is no volume
pub mod Broken

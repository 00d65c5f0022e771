-- That the walk decides the law. The theorems are `accepts`, `report`, `why`, `refused_first` and `law_bare`.

-- facts on lists: positions, membership, nothing twice
pub mod Lists
-- facts on claim bytes
pub mod Claims
-- the walk with no fuel: the equations that code is proved by
pub mod Runs
-- a graph unfolded into a tree, which has the same walk
pub mod Tree
-- what the walk of the tree has found out
pub mod Found
-- what the walk of the tree keeps true
pub mod Kept
-- the whole walk of the tree, and what holds at its end
pub mod WholeWalk
-- `accepts`: the walk accepts if and only if the law holds
pub mod Accepts
-- `report`: an accepted walk hands back just what is reached
pub mod Reports
-- `why`: a refusal has a cause
pub mod Refuses
-- `refused_first`: a refusal is the first node that fails, and its number
pub mod Firsts
-- `law_bare`: the same law, of nodes that carry less
pub mod Bare
-- `pruned_same`: what a node that fails refers to does not matter
pub mod Pruned

-- What the contracts of `lookup` cite. To read what a lookup is: Paths, Search, Lookup; what its answers mean:
-- Trails, Verdicts.

-- components, and the form of a path
pub mod Paths
-- one component in its directory
pub mod Search
-- all components, and what the call answers
pub mod Lookup
-- components that lead from directory to directory, and the path of an entry
pub mod Trails
-- what each answer means
pub mod Verdicts
-- what the parts of the code ask and promise
pub mod Parts

-- A graph of references, the walk that audits it, and the law that the walk decides.

-- what refers to what, what is reached, and what it is to be owned once
pub mod References
-- the tests, and the walk that makes them
pub mod Walk
-- the order of the walk, and the first node that fails: no fuel, no claims
pub mod Visits
-- the law, which mentions no walk; what an acceptance reports, and what a refusal means
pub mod Law

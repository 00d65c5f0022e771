-- What the contracts of `audit` cite. To read what an audit answers and leaves: Bits, Audits; what its answer means:
-- Verdicts.

-- what a part of the walk has done
pub mod Walks
-- the bitmap against the claims
pub mod Bits
-- the audit's answer, and the claim area after it
pub mod Audits
-- what the answer means
pub mod Verdicts
-- what the parts of the code ask and promise
pub mod Parts

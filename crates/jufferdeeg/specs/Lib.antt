-- What the contracts of `jufferdeeg` cite: the answers as structs of numbers, each by the definition that gives an
-- answer's numbers.

-- audit, find and read
pub mod Volumes
-- check, load and move
pub mod Programs
-- the sentence of a refusal
pub mod Reasons

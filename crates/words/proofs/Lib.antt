-- Laws of what specs/ defines, for this crate and those above it.
pub mod Words
pub mod Turns
pub mod Sums
pub mod Lanes
pub mod Shifts

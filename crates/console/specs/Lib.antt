-- What the contracts cite.
pub mod Hex

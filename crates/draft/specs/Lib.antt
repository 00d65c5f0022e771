-- What the contracts of `draft` cite.
pub mod Parts

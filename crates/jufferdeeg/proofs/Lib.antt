-- The library's theorems side by side: Headlines. The others are what the exported calls are proved by.
pub mod Crossing
pub mod Deciding
pub mod Headlines
pub mod Seen
pub mod SeenMoving
pub mod Spoken

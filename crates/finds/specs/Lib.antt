-- What finds and reads answer while blocks of a volume are written one by one.

-- two images that answer alike, and paths at or below a path
pub mod Answers

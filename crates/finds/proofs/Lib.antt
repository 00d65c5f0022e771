-- What finds and reads answer while blocks of a volume are written one by one.

-- `same_find`: on an image with the same tree every find answers alike
pub mod SameFinds
-- `same_read`, `same_left`: so does every read, and it leaves the same bytes
pub mod SameReads
-- what is in a directory, and what a search for a name gives there
pub mod Holdings
-- `find_like`: finds that do not come to an entry answer alike with it and without it
pub mod Likes
-- `path_gone`, `path_stays`: what each path answers where an entry is gone
pub mod Ways
-- `repair_answers`, `repair_lawful`: a repair, cut off or not
pub mod AfterRepair
-- `delete_answers`, `delete_lawful`, `delete_gone`, `delete_stays`, `cut_repaired`: a delete, cut off or not
pub mod AfterDelete

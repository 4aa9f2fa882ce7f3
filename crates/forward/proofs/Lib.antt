-- Laws about the forward pass; the functions' proofs cite them.
-- the table, while records are put behind others
pub mod Drafts
-- the prefixes of a total, and their records
pub mod Totals
-- the step from one total to the next
pub mod Steps
-- the letters that can be added to what it gives
pub mod Handed
-- that step in the table
pub mod Puts
-- one total, and all of them
pub mod Fills
-- the first place from a place on, and the way back
pub mod Seeks
-- the first event of a letter that may come to the front
pub mod Picks
-- no total is without prefixes
pub mod Reached

-- Laws about the way back through the records; the functions' proofs cite them.
-- which record has one letter more
pub mod Sweep
-- flags in the free bits of counts
pub mod FlagBits
-- the table on the way back
pub mod Swept

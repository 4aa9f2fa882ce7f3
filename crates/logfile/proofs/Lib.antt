-- Laws for the proofs of this crate.
pub mod Bytes
pub mod Sections
pub mod Answers
-- the log part and its place
pub mod Parts
-- files of before logs had 4,000 letters
pub mod OldFiles

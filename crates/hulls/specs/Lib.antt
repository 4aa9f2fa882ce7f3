-- Paper 12: forward sets with hidden letters behind the last letter.
pub mod Hulls

-- A rule that fits two sets, and the parts of a pair.
pub mod Fits
pub mod Steps

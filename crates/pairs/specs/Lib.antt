-- The sets of names of pairs of prefixes.
pub mod Settings
pub mod Pairs

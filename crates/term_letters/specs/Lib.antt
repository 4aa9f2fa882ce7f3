-- The letters that can be added, in a log with terms or without.
pub mod Letters

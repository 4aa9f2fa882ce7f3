-- The answers of a comparison.
pub mod Comparison

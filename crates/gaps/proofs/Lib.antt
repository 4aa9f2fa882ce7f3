-- The events between two prefixes.
pub mod Gaps

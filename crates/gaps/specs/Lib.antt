-- How two prefixes stand to each other.
pub mod Gaps

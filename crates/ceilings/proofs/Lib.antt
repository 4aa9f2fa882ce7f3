-- P within the ceiling, and the rules of the groups as a test.
pub mod Prefixes
pub mod Groups
pub mod Events

-- The order that is written.
pub mod Deriving

-- The test of a letter to add.
pub mod Events

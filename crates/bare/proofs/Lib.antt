-- The table of a profile without moves and final states.
pub mod Silent
pub mod Building

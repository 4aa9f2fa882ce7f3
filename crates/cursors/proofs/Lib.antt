-- Laws about the cursors of a total; other crates cite them.
pub mod Levels
pub mod Moving
pub mod Search

-- Laws about the merge; other crates cite them.
pub mod Givers
pub mod Levels

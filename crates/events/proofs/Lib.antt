-- Laws about the letters that can be added; other crates cite them.
pub mod Adding
pub mod Keeping

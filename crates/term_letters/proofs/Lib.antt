-- Laws about the letters that can be added in a log with terms; other crates cite them.
pub mod Terms

-- Laws about the test; other crates cite them.
pub mod InTerms

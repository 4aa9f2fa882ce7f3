-- The test of a letter to add, in a log with terms.
pub mod InTerms

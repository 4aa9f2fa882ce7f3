-- Laws of the check of a rule; the functions' proofs cite them.
pub mod Tests

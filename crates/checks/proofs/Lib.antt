-- Laws for the proofs of this crate.
pub mod Loops
pub mod Ranges

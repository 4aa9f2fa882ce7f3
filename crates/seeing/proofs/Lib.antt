-- Laws of the answer for a visible part; the functions' proofs cite them.
pub mod Told
pub mod Inner

-- Laws of the call; the functions' proofs cite them.
pub mod Viewed
pub mod Demands
pub mod Judges

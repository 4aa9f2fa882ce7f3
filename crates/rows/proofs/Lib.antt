-- Laws about the moves by letter; the functions' proofs cite them.
pub mod Steps

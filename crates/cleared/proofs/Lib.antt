-- Laws of the judge that clears its table after 10; the functions' proofs cite them.
pub mod Cleared

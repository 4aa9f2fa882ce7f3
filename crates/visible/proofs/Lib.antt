-- Laws of the checks of a view and of the visible part; the functions' proofs cite them.
pub mod Entry
pub mod Parts

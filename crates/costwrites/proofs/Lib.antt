-- Laws of cells that are written.
pub mod Writing

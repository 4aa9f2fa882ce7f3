-- Laws of the cost table.
pub mod Ways
pub mod Onward
pub mod Backward
pub mod Lending
pub mod Filling
pub mod Stepping

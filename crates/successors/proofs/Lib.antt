-- Laws of the record with one letter more.
pub mod Bounds
pub mod More

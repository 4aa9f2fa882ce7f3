-- Laws of what is read from a right cost table.
pub mod Readings

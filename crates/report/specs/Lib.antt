-- The text that the program prints.
pub mod Report

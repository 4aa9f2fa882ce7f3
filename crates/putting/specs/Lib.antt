-- What is put where.
pub mod Putting

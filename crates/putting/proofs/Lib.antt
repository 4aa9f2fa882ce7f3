-- Laws of what is put, for the crates that put files and texts.
pub mod Texts

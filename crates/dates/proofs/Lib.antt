-- Laws by subject.
pub mod Codes
pub mod Firsts

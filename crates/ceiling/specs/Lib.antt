-- The answer of a ceiling.
pub mod Ceiling

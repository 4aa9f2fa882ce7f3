-- The answers, and what they say.
pub mod Answers
pub mod Demands

-- Laws by subject.
pub mod Answers
pub mod Codes

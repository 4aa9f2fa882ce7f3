-- Laws by subject.
pub mod Records
pub mod Choices
pub mod Extraction
pub mod Standing

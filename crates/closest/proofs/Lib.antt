-- Laws by subject.
pub mod Answering

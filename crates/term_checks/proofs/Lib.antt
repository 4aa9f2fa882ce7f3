-- Laws by subject.
pub mod Admission

-- Laws of the call.
pub mod Filling
pub mod Answers
pub mod Courses
pub mod Edges

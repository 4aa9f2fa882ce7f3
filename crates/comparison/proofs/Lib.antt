-- Laws about the answers, about pairs of letters, and about `eq` of two iterators.
pub mod Projections
pub mod Equals
pub mod Answers

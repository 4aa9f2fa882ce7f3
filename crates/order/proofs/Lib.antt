-- Laws about the answers, and about the steps of the loop; two logs are the same when their first orders are equal.
pub mod Answers
pub mod First
pub mod NormalForm

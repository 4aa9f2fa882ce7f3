-- Laws about the records of a part of the table; other crates cite them.
pub mod Drafts
pub mod Halves

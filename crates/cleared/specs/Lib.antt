-- Paper 12: a judge that leaves nothing in the table after 10.
pub mod Cleared

-- Laws by subject.
pub mod Rows
pub mod Trying
pub mod Walking
pub mod Listing

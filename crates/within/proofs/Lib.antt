-- The ceiling beside the judge, and examples.
pub mod Within
pub mod Terms
pub mod Examples

-- A group's events by the counts of its letters, and the product.
pub mod Sizes

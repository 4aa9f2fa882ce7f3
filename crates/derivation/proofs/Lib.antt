-- Letters put into the order, part by part.
pub mod Splices
pub mod Orders

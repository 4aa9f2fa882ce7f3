-- The answers of a first order.
pub mod Order

-- The next step of an order.
pub mod Parts

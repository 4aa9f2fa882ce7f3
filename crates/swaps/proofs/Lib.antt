-- Laws of swaps, of the ranking and of the closest order.
pub mod Costs
pub mod Fewest
pub mod Pairs
pub mod Floors
pub mod Rests
pub mod Walks
pub mod Bounds
pub mod Examples
pub mod Letters

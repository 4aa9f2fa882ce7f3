-- The ceiling by the counts of the letters.
pub mod Products

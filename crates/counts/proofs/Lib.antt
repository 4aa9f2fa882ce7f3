-- Laws about the counts in numbers, by subject; other crates cite them.
-- the counts in one number, and the order of counts
pub mod Words
pub mod Order
-- counts, packed: one more, equal, before, total
pub mod Packed
-- equality of numbers is equality of every letter's counts
pub mod Equality
-- one of eight numbers changed, by tests of its place
pub mod Choices

-- Places in the second table, sets that are gathered, the set of one pair.
pub mod Squares
pub mod Gathers
pub mod Cells

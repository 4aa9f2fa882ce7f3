-- The set of a pair at both of its places, and one pair more that is known.
pub mod Twice
pub mod Knowing

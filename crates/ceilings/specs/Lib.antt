-- Letter groups, the ceiling, and its refusals.
pub mod Ceilings

-- The worked cases of the definitions, and the laws of lists, sets and reachable logs.
-- lists and sets
pub mod Lists
pub mod Sets
-- reachable logs
pub mod Traces
-- each relation and its test: prefixes, accepted logs, letter order and the same logs
pub mod Marks
pub mod Paths
pub mod Orders
-- worked cases
pub mod Cases
pub mod Edges
-- what the chain of an iterator answers
pub mod Chains

-- Laws of the prefixes in order of arrival, and of the table that keeps them.
-- one event more at the end of a log; the prefixes that it brings; all prefixes in order of arrival
pub mod Ends
pub mod Events
pub mod Arrivals
-- where a prefix with one letter less stands
pub mod Before
pub mod Inner
pub mod Between
pub mod Places
-- the table
pub mod Tables
-- worked cases
pub mod Cases

-- Laws of events.
-- what an event tells, from what the table alone gives
pub mod Taking
-- what the table tells of the prefixes, and that the records put are those of the definition
pub mod Reading
pub mod Placing
pub mod Trying
pub mod Writing
-- how a letter's place is told and moved
pub mod Places

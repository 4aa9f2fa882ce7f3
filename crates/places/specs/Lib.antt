-- The places of each letter's events in a log.
pub mod Places

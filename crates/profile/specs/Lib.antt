-- The definitions, in the order of document 01. Everything else is proved about them.
pub mod Limits
pub mod Lists
pub mod Traces
pub mod Automata
pub mod Prefixes
pub mod Tables
pub mod Orders
pub mod Rules
pub mod Refusals
pub mod Answers
pub mod Source

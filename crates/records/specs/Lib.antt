-- The definitions that the contracts cite.
pub mod Records
pub mod Drafts

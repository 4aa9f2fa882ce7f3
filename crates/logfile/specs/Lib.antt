-- The definitions that the contracts of this crate cite beside those of `profile`.
pub mod Files

-- The definitions that the contracts cite.
-- the exported function's
pub mod Forward
-- those of the functions that it is made of
pub mod Merging

-- The judge's answer from the table's promise.
pub mod Judging
pub mod Promises
pub mod Demands
-- answers with the record of six numbers
pub mod OldCalls

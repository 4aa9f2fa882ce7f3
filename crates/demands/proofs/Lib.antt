-- admitted logs
pub mod Admission
pub mod Examples
-- traces: the rest of a prefix, the records of a table
pub mod Rests
pub mod Records
-- what the calls promise
pub mod Demand2
pub mod Demand3

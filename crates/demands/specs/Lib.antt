-- Admitted logs; what demand 2 asks of a table.
pub mod Admitted
pub mod Rests
pub mod Traces

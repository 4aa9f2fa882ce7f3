-- What a rule gives.
pub mod Rules

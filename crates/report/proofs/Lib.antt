-- Laws for the proofs of this crate.
pub mod Decimal
pub mod Printing
pub mod ProgramCases
pub mod Program
pub mod ProgramRefusals

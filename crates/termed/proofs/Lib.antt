-- The demands of the judge with terms.
pub mod Demands
pub mod OneTerm

-- What is promised of the judge with terms.
pub mod Termed

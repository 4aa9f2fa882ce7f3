-- What more pairs change: of the definitions, of the judge's answers, and examples.
pub mod Nested
pub mod Generous
pub mod Pairs
pub mod Terms
pub mod Examples

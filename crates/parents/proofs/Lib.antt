-- Laws about the letters of a prefix, by those of the prefixes with one letter less; other crates cite them.
pub mod Complements
pub mod Ones
pub mod Parents
pub mod Unions

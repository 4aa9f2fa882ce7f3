-- Laws about the letters that can be added; other crates cite them.
pub mod Additions
pub mod Tests
pub mod Handing

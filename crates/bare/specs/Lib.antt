-- The work table of a judge for grammars.
pub mod Bare

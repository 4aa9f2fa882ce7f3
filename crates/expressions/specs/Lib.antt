-- Paper 1: expressions and the texts that type one (to be believed); what is computed of them.
pub mod Expressions
pub mod Texts
pub mod Positions
pub mod Passes
pub mod Trees

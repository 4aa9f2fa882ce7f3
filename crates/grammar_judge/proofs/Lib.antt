-- The judge for grammars: each way out, the verdict by the second table, and the demands over what it returns.
pub mod Settings
pub mod Verdict
pub mod Answers
pub mod Demands

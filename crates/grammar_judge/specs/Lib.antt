-- The judge for grammars.
pub mod GrammarJudge

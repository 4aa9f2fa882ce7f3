-- The definitions that the contracts of the private functions cite.
pub mod CodedAnswers

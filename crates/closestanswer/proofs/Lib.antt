-- What a call promises, as the sentences of Paper 10: for any rules, and for logs without terms.
pub mod Promises
pub mod Demands

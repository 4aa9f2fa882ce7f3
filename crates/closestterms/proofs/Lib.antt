-- The closest order of codes, and the sentences of Paper 10 for a log with terms.
pub mod Relabelled
pub mod Demands

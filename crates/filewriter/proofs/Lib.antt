-- Laws for the proofs of this crate, the round trip, and worked files.
pub mod Bytes
pub mod Answers
pub mod RoundTrip
pub mod ReadBack
pub mod FileCases
pub mod Stored

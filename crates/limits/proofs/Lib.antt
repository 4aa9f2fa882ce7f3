-- What the code relies on among the limits.
pub mod Relations

-- Laws of cursors.
pub mod Bumps
pub mod Cursors
pub mod Successors

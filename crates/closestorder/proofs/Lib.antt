-- Laws by subject.
pub mod Closing
pub mod Cells
pub mod Cursors

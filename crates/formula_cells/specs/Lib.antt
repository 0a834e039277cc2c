pub mod Checked
pub mod Expressions
pub mod Putting
pub mod ReadAs
pub mod Stored

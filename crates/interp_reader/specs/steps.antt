pub mod Filling
pub mod Own
pub mod Whole

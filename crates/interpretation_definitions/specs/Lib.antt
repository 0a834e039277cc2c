pub mod Context
pub mod Given
pub mod Interpretation
pub mod Judging
pub mod Parts

pub mod Evaluating
pub mod steps

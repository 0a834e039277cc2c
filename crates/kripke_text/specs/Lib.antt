pub mod Texts
pub mod steps

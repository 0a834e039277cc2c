pub mod Prepared
pub mod steps

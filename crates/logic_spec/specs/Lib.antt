pub mod Asked
pub mod steps

pub mod Chosen
pub mod Declared

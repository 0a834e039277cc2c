pub mod Input
pub mod Names
pub mod Signs
pub mod Spelled

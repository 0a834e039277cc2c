pub mod Front
pub mod Members

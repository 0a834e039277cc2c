pub mod CallerLemmas
pub mod Spelled
pub mod Tools
pub mod Turns

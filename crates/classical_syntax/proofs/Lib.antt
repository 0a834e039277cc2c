pub mod CallerLemmas
pub mod Fronts
pub mod Numerals
pub mod Places

pub mod CallerLemmas
pub mod Numerals
pub mod Starts
pub mod TextRows

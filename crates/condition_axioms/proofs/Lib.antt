pub mod AddingDomains
pub mod AddingFrames
pub mod AddingTerms
pub mod CallerLemmas
pub mod Rows

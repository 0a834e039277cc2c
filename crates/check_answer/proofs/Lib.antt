pub mod CallerLemmas
pub mod Judged
pub mod Names
pub mod Verdicts

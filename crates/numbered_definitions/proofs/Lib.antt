pub mod CallerLemmas
pub mod Options

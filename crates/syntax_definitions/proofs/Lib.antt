pub mod Balances
pub mod CallerLemmas
pub mod Levels
pub mod LevelsOfTrees
pub mod Refusals
pub mod RegularTrees

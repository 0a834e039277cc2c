pub mod Moves
pub mod ReadFiles
pub mod ReadFormulas
pub mod ReadLists
pub mod ReadLogic
pub mod ReadStatements
pub mod ReadTypings

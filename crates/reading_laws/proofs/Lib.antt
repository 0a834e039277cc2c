pub mod FineFiles
pub mod FineFormulas
pub mod FineStatements
pub mod LeftOfFormulas
pub mod LeftOfStatements
pub mod ReadLevels
pub mod Weights

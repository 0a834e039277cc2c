pub mod FirstParts
pub mod Labels

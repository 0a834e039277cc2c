pub mod PlainTokens
pub mod Marks
pub mod TokenLaws

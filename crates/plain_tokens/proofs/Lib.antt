pub mod MarksLexed
pub mod OneToken

pub mod PrintedTexts
pub mod SpelledNames

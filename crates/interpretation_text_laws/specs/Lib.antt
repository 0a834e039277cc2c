pub mod ElementsApart
pub mod ReadBack
pub mod SpelledInterpretations

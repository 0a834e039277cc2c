pub mod KripkeTextLaws
pub mod steps

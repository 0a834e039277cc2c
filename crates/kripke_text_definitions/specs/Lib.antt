pub mod TokenStatements
pub mod KripkeText
pub mod Reading

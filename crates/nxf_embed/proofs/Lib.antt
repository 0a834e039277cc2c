pub mod Choosing
pub mod Declaring
pub mod Numbering
pub mod OneConjecture
pub mod Printable
pub mod Read

pub mod Answering
pub mod Appending
pub mod Ending
pub mod Reading
pub mod WordLists

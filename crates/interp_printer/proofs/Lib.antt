pub mod Appending
pub mod Literals
pub mod Naming
pub mod SortPlaces
pub mod Statements
pub mod Texts

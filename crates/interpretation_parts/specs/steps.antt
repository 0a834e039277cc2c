pub mod After
pub mod Closed
pub mod Entries
pub mod Held
pub mod Items
pub mod Readings
pub mod Tables

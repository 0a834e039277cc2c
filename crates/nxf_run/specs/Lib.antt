pub mod Answer
pub mod Commands
pub mod Ending
pub mod Forms
pub mod Meaning
pub mod Run
pub mod steps

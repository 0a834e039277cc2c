pub mod InStep
pub mod Numbering
pub mod Scope
pub mod Statements

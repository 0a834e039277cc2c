pub mod Choices
pub mod FirstFaults
pub mod ListFaults
pub mod ModalWords
pub mod Tables

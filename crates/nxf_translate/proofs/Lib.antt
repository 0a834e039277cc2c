pub mod CallerLemmas
pub mod FormCases
pub mod Made
pub mod Members
pub mod Rows
pub mod TermCases

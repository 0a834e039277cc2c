pub mod Agreement
pub mod NameLaws
pub mod Standing

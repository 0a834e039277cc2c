pub mod Forms
pub mod Place

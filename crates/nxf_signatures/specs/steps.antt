pub mod Tables
pub mod TablesOf

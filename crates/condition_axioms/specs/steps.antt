pub mod Listed
pub mod SortAxioms

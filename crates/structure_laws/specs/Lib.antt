pub mod ClassicalNamed
pub mod Correspondence
pub mod KripkeLaws
pub mod KripkeWrites
pub mod RowLaws
pub mod StructureWrites

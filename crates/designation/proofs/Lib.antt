pub mod FaultLemmas
pub mod RowLemmas

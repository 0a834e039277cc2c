pub mod FaultLemmas
pub mod FormulaCases
pub mod RoomLemmas
pub mod TermCases

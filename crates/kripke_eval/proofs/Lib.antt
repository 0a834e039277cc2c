pub mod FormulaCases
pub mod JudgingLemmas
pub mod RoomLemmas
pub mod TermCases
pub mod WalkLemmas

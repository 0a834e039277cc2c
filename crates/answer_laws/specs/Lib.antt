pub mod AnswerLaws
pub mod LiftLaws

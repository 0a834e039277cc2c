pub mod DepthLaw
pub mod EvaluationLaws
pub mod FaultLaws

pub mod ElementNames
pub mod InterpretationText

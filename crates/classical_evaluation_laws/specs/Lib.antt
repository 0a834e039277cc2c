pub mod ClassicalLaws
pub mod ClassicalFaultLaws

pub mod ClassicalFaults
pub mod ClassicalFitting
pub mod ClassicalForm
pub mod ClassicalMeaning
pub mod ClassicalSorting

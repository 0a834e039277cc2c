pub mod PrintedAxioms
pub mod PrintedFormulas
pub mod PrintedNames
pub mod PrintedStatements

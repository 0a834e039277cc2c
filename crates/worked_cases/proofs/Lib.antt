pub mod CaseTrees
pub mod WorkedEmbeddings
pub mod WorkedProblems
pub mod WorkedRefusals
pub mod WorkedTexts
pub mod WorkedVerdicts

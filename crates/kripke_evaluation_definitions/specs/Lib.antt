pub mod FileConditions
pub mod Fitting
pub mod NumberedDepth
pub mod NumberedMeaning

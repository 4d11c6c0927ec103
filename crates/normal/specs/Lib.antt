pub mod Answers
pub mod Written
pub mod Fitting
pub mod Releases
pub mod Normalises
pub mod Runs

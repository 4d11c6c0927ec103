pub mod Sizes
pub mod Progress
pub mod Columns

pub mod Feeding
pub mod Stationed
pub mod Whole

pub mod RowTexts
pub mod Needs
pub mod Pens

pub mod Printer
pub mod Spaces

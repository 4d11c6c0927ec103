pub mod Odd
pub mod Lawful

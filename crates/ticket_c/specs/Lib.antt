pub mod Calls
pub mod Full
pub mod Lawful

pub mod Texts
pub mod Writers
pub mod Lawful

pub mod Forms
pub mod Recorders
pub mod Lawful

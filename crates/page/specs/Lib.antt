pub mod Pictures
pub mod Formed
pub mod Pages
pub mod Lawful

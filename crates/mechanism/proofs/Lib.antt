pub mod Counting
pub mod Appending

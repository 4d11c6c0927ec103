pub mod Within
pub mod Kept
